-- What a store of rows means.
use Rattle.std.specs.Prelude.{◌≡◌, ℕ, ◌+◌, ◌-◌, ◌<◌, ◌≤◌, List, [], ◌∷◌, take, drop, vec_items, vec_len, slice_index_or}
use Rattle.values.specs.declared.value.Value.{Value}
use Rattle.store.specs.Model.{Rec, Records}
use Rattle.store.specs.declared.head.Head.{Head}
use Rattle.rows.specs.declared.held.Rows.{Rows}

-- what stands where there is no record
abbrev pub no_head : Head ℕ
no_head = record { class = 0; first = 0; count = 0 }

-- each record takes its cells off the front
abbrev pub cut : List (Head ℕ) → List Value → List Rec
cut [] vs = []
cut (h ∷ hs) vs = record { class = h.class; cells = take h.count vs } ∷ cut hs (drop h.count vs)

abbrev pub meaning : {r c : ℕ} → Rows r c → Records
meaning s = record { records = cut (vec_items s.heads) (vec_items s.cells); records_left = s.records_left; cells_left = s.cells_left }

-- h is where the cells of the record r are
pub record Stands {m n : ℕ} (s : Rows m n) (r : ℕ) (h : Head ℕ) : Type 0 where
  pub low : 1 ≤ r
  pub high : r ≤ vec_len s.heads
  pub isa : h ≡ slice_index_or (vec_items s.heads) (r - 1) no_head

-- p is where the cell j of the record r lies among all cells
pub record Lies {m n : ℕ} (s : Rows m n) (r j p : ℕ) : Type 0 where
  pub head : Head ℕ
  pub stands : Stands s r head
  pub inside : j < head.count
  pub isa : p ≡ head.first + j
