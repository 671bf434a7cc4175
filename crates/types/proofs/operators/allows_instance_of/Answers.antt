use Rattle.std.proofs.lemmas.Bool.Decides.{Decides-like}
use Rattle.types.specs.Operators.InstanceTyped.{instance}
use Rattle.types.proofs.Typing.{instance_reference}
use Rattle.types.proofs.operators.allows_instance_of.Goals as goal
use Rattle.types.proofs.operators.allows_instance_of.Goals.{in-Class, in_default}

pub returns-then-matches : goal.returns-then-matches
returns-then-matches c =
    elim c.match-matches.branch [
      | in-Class w ↦ Decides-like _ (λ r. rw w.in-Class.is (instance r)) instance_reference c.is_reference.ensures
      | in_default w ↦ absurd cc
    ]
