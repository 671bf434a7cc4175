-- The parts that are open where the check of a table stands, by their ends.
use Rattle.std.specs.Prelude.{◌≡◌, ℕ, ◌<◌, ◌≤◌, List, length, nat_lt, slice_index, count_by}
use Rattle.table.specs.Shape.{end_of, tally}
use Rattle.table.specs.declared.kinds.Node.{Node}

-- es are ends of parts that begin before p, the outermost first, and they leave out no part that ends behind p
pub record Opens (ns : List Node) (p : ℕ) (es : List ℕ) : Type 0 where
  pub ends : (i : ℕ) → i < length es → (q : ℕ) × (q < p) × (slice_index es i ≡ end_of ns q)
  pub inward : (i j : ℕ) → i < j → j < length es → slice_index es j ≤ slice_index es i
  pub counts : (j : ℕ) → p ≤ j → tally (end_of ns) p j ≡ count_by (nat_lt j) es
