-- A library is ready for a batch in one way at most, so that a type can hold the fact.
use Rattle.std.specs.Prelude.{ℕ, ◌<◌, List, IfSome, Option, ⊤}
use Rattle.std.specs.Option.{MatchOption-prop}
use Rattle.std.specs.Coded.{Unit-prop, le_prop}
use Rattle.table.specs.declared.kinds.Node.{Node}
use Rattle.library.specs.Contents.{Contents}
use Rattle.parts.specs.OneFormed.{Formed-prop}
use Rattle.typing.specs.Checked.{Ready}

IfSome-prop : (k : Option ℕ) (n : ℕ) → IsProp (IfSome k (λ c. c < n))
IfSome-prop k n = MatchOption-prop k ⊤ (λ c. c < n) Unit-prop (λ c. le_prop)

pub Ready-prop : (T : List Node) (w : Contents) (n : ℕ) (k : Option ℕ) → IsProp (Ready T w n k)
Ready-prop T w n k a b =
    λ i. record { formed = Formed-prop T a.formed b.formed i; kept = le_prop a.kept b.kept i; class = IfSome-prop k _ a.class b.class i }
