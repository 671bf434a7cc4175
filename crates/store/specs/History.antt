-- What sequences of changes make of a store.
use Rattle.std.specs.Prelude.{◌≡◌, ℕ, ◌+◌, cond, List, [], ◌∷◌, length}
use Rattle.store.specs.Model.{Records, room, cleared, with_record, with_cell, cells_used}
use Rattle.store.specs.declared.history.Change.{Change}
use Rattle.store.specs.declared.history.Change.TheVariants.{Create, Write}

abbrev pub changed : Records → Change → Records
changed m (Create c k) = cond (room m k) (with_record m c k) m
changed m (Write r j v) = with_cell m r j v

abbrev pub played : Records → List Change → Records
played m [] = m
played m (c ∷ cs) = played (changed m c) cs

-- what is used and what is left are r records and c cells
pub record Balance (r c : ℕ) (m : Records) : Type 0 where
  pub of_records : length m.records + m.records_left ≡ r
  pub of_cells : cells_used m.records + m.cells_left ≡ c

-- so it is after every sequence of changes
abbrev pub Balances : ℕ → ℕ → Type 0
Balances r c = (cs : List Change) → Balance r c (played (cleared r c) cs)
