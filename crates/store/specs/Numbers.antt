-- Look-ups by the number of a record.
use Rattle.std.specs.Prelude.{ℕ, zero, suc, List, None, Option}
use Rattle.std.specs.List.{slice_get}

-- what stands in the list for a record, by its number from 1
abbrev pub by_number : {X : Type 0} → List X → ℕ → Option X
by_number xs zero = None
by_number xs (suc i) = slice_get xs i
