-- What a record store means: its records in the order of their numbers, and what is left.
use Rattle.std.specs.Prelude.{◌≡◌, ℕ, zero, suc, ◌+◌, ◌-◌, Bool, true, false, ◌&&◌, List, [], ◌∷◌, ◌++◌, length, replicate, Some, None, Ok, Err, Option, Result, nat_le, nat_lt, slice_set}
use Rattle.std.specs.List.{slice_get}
use Rattle.values.specs.declared.value.Value.{Value}
use Rattle.values.specs.declared.value.Value.TheVariants.{Null}
use Rattle.store.specs.Numbers.{by_number}
use Rattle.store.specs.declared.made.NotMade.{NotMade}
use Rattle.store.specs.declared.made.NotMade.TheVariants.{Sizes, Memory}

pub record Rec : Type 0 where
  pub class : ℕ
  pub cells : List Value

pub record Records : Type 0 where
  pub records : List Rec
  pub records_left : ℕ
  pub cells_left : ℕ

-- the sizes that a store may have: r records and c cells
abbrev pub allowed : ℕ → ℕ → Bool
allowed r c = nat_le 1 r && nat_le r 1000 && nat_le c 2000

-- no records, and everything left
abbrev pub cleared : ℕ → ℕ → Records
cleared r c = record { records = []; records_left = r; cells_left = c }

-- whether there is room for one more record of k cells
abbrev pub room : Records → ℕ → Bool
room m k = nat_lt 0 m.records_left && nat_le k m.cells_left

abbrev pub blank : ℕ → ℕ → Rec
blank c k = record { class = c; cells = replicate k Null }

-- one more record, of the class c and with k nulls
abbrev pub with_record : Records → ℕ → ℕ → Records
with_record m c k = record { records = m.records ++ blank c k ∷ []; records_left = m.records_left - 1; cells_left = m.cells_left - k }

-- what creating answers, and what it leaves
abbrev pub Created : Records → ℕ → ℕ → Option ℕ → Records → Type 0
Created m c k None n = (room m k ≡ false) × (n ≡ m)
Created m c k (Some r) n = (room m k ≡ true) × (r ≡ length m.records + 1) × (n ≡ with_record m c k)

-- a record by its number, from 1
abbrev pub record_at : Records → ℕ → Option Rec
record_at m r = by_number m.records r

abbrev pub class_in : Option Rec → Option ℕ
class_in None = None
class_in (Some x) = Some x.class

abbrev pub cell_in : Option Rec → ℕ → Option Value
cell_in None j = None
cell_in (Some x) j = slice_get x.cells j

abbrev pub class_at : Records → ℕ → Option ℕ
class_at m r = class_in (record_at m r)

abbrev pub cell_at : Records → ℕ → ℕ → Option Value
cell_at m r j = cell_in (record_at m r) j

-- a record with one cell changed; where it has no such cell, the record itself
abbrev pub with_value : Rec → ℕ → Value → Rec
with_value x j v = record { class = x.class; cells = slice_set x.cells j v }

abbrev pub with_value_at : List Rec → ℕ → ℕ → Value → List Rec
with_value_at [] i j v = []
with_value_at (x ∷ xs) zero j v = with_value x j v ∷ xs
with_value_at (x ∷ xs) (suc i) j v = x ∷ with_value_at xs i j v

-- one cell changed; where it is absent, nothing
abbrev pub with_cell : Records → ℕ → ℕ → Value → Records
with_cell m zero j v = m
with_cell m (suc i) j v = record { records = with_value_at m.records i j v; records_left = m.records_left; cells_left = m.cells_left }

-- how many cells the records have
abbrev pub cells_used : List Rec → ℕ
cells_used [] = 0
cells_used (x ∷ xs) = length x.cells + cells_used xs

-- what making a store answers
abbrev pub Made : {S : Type 0} → (S → Records) → ℕ → ℕ → Result S NotMade → Type 0
Made meaning r c (Ok s) = (allowed r c ≡ true) × (meaning s ≡ cleared r c)
Made meaning r c (Err Sizes) = allowed r c ≡ false
Made meaning r c (Err Memory) = allowed r c ≡ true
