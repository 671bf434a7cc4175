use Rattle.std.proofs.Common.{◌≡◌, Decides, sym, ◌∙◌, rules}
use Rattle.std.proofs.lemmas.Bool.Decides.{Decides-like}
use Rattle.values.specs.declared.types.«Type».TheVariants.{Float, Int}
use Rattle.types.specs.Subtypes.Assignable.{widened, under}
use Rattle.types.proofs.Climbing.{assigned_under}
use Rattle.types.proofs.hierarchy.Hierarchy.is_assignable.Goals as goal
use Rattle.types.proofs.hierarchy.Hierarchy.is_assignable.Goals.{then-eq, else-eq}

pub returns-then-eq-2 : goal.returns-then-eq-2
returns-then-eq-2 c =
    elim c.if-eq.branch [
      | then-eq w ↦
          let f : Decides c.eq.result (c.args.declared ≡ Float) = search rules in
          let i : Decides w.eq-then-eq.result (c.args.value ≡ Int) = search rules in
          (λ _. rw (f.0 w.if-eq.true, i.0 (sym w.value-is ∙ c.if-eq-2.true)) widened, λ _. c.if-eq-2.true)
      | else-eq w ↦ absurd cc
    ]

pub returns-else-eq-2 : goal.returns-else-eq-2
returns-else-eq-2 c =
    let n : c.args.declared ≡ Float → c.args.value ≡ Int → ⊥ = λ a b.
    let f : Decides c.eq.result (c.args.declared ≡ Float) = search rules in
    elim c.if-eq.branch [
      | then-eq w ↦ let i : Decides w.eq-then-eq.result (c.args.value ≡ Int) = search rules in let y = i.1 b in absurd cc
      | else-eq w ↦ let y = f.1 a in absurd cc
    ]
    in
    Decides-like _ under (assigned_under n) c.is_subtype.ensures.answer
