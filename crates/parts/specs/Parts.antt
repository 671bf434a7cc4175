-- What stands at a place of a formed table: nodes of a class, the elements of a list, symbols.
use Rattle.std.specs.Prelude.{◌≡◌, ℕ, ◌<◌, ◌≤◌, true, List, length, replicate}
use Rattle.table.specs.Kinds.{admits, list_row_of, word_of}
use Rattle.table.specs.Shape.{node_at, Follow}
use Rattle.table.specs.declared.kinds.Node.{Node}
use Rattle.table.specs.declared.kinds.Class.{Class}
use Rattle.table.specs.declared.kinds.Class.TheVariants.{ListOf}
use Rattle.table.specs.declared.kinds.Listed.{Listed}

-- a node of the class c stands at p
pub record Is (T : List Node) (c : Class) (p : ℕ) : Type 0 where
  pub within : p < length T
  pub admitted : admits c (node_at T p) ≡ true

-- some list stands at p
abbrev pub IsList : List Node → ℕ → Type 0
IsList T p = (l : Listed) × Is T (ListOf l) p

-- n nodes of the class c follow one another from q on, and the last ends at e
pub record Row (T : List Node) (c : Class) (n q e : ℕ) : Type 0 where
  pub within : e ≤ length T
  pub follow : Follow T e (replicate n c) q

-- some nodes of the class c do so
abbrev pub RowOf : List Node → Class → ℕ → ℕ → Type 0
RowOf T c q e = (n : ℕ) × Row T c n q e

-- the symbol of the Identifier at p
abbrev pub symbol_at : List Node → ℕ → ℕ
symbol_at T p = (node_at T p).word

-- the elements of a List that stands at p lie from q to e
abbrev pub Holds : List Node → ℕ → ℕ → ℕ → Type 0
Holds T p q e = (l : Listed) → Is T (ListOf l) p → (n : ℕ) × (n ≤ (list_row_of (word_of l)).most) × Row T (list_row_of (word_of l)).element n q e
