-- Chains of slots: where they run, and what they hold.
use Rattle.std.specs.Prelude.{◌≡◌, ℕ, zero, suc, ◌+◌, ◌<◌, Bool, true, not, ◌==◌, ◌&&◌, List, [], ◌∷◌, ◌++◌, map, length, Some, None, Option, nat_lt, slice_index_or, slice_set}
use Rattle.std.specs.List.{slice_get, list_all}
use Rattle.values.specs.declared.value.Value.{Value}
use Rattle.values.specs.declared.value.Value.TheVariants.{Null}
use Rattle.store.specs.Model.{Rec, Records}
use Rattle.store.specs.Numbers.{by_number}
use Rattle.slips.specs.declared.slot.Slot.{Slot}
use Rattle.store.specs.declared.head.Head.{Head}

abbrev pub no_slot : Slot
no_slot = record { value = Null; next = 0 }

abbrev pub slot : List Slot → ℕ → Slot
slot ss i = slice_index_or ss i no_slot

-- the slot that n links lead to from the slot i
abbrev pub after : List Slot → ℕ → ℕ → ℕ
after ss zero i = i
after ss (suc n) i = after ss n (slot ss i).next

-- the chain of n slots from the slot i on
abbrev pub chain : List Slot → ℕ → ℕ → List ℕ
chain ss zero i = []
chain ss (suc n) i = i ∷ chain ss n (slot ss i).next

abbrev pub value_at : List Slot → ℕ → Value
value_at ss i = (slot ss i).value

-- what the slots of such a chain hold
abbrev pub cells_of : List Slot → ℕ → ℕ → List Value
cells_of ss n i = map (value_at ss) (chain ss n i)

-- whether all these slots are there
abbrev pub within : List Slot → List ℕ → Bool
within ss xs = list_all (λ x. nat_lt x (length ss)) xs

-- the slots with one value changed
abbrev pub with_slot : List Slot → ℕ → Value → List Slot
with_slot ss i v = slice_set ss i (record { value = v; next = (slot ss i).next })

-- the slots with nulls in some of them
abbrev pub nulled : List Slot → List ℕ → List Slot
nulled ss [] = ss
nulled ss (x ∷ xs) = nulled (with_slot ss x Null) xs

-- each slot is linked to the one behind it
abbrev pub InOrder : List Slot → Type 0
InOrder ss = (k : ℕ) → k < length ss → (slot ss k).next ≡ k + 1

-- whether no number comes twice
abbrev pub is_distinct : List ℕ → Bool
is_distinct [] = true
is_distinct (x ∷ xs) = list_all (λ y. not (x == y)) xs && is_distinct xs

-- the slots of all records
abbrev pub used : List Slot → List (Head ℕ) → List ℕ
used ss [] = []
used ss (h ∷ hs) = chain ss h.count h.first ++ used ss hs

-- the slots of all records, and then those of the free chain
abbrev pub every : List Slot → List (Head ℕ) → ℕ → ℕ → List ℕ
every ss hs free space = used ss hs ++ chain ss space free

-- whether the chains of the records and the free chain are there and meet nowhere
abbrev pub linked : List Slot → List (Head ℕ) → ℕ → ℕ → Bool
linked ss hs free space = is_distinct (every ss hs free space) && within ss (every ss hs free space)

-- how many cells the records have
abbrev pub counts : List (Head ℕ) → ℕ
counts [] = 0
counts (h ∷ hs) = h.count + counts hs

abbrev pub rec_of : List Slot → Head ℕ → Rec
rec_of ss h = record { class = h.class; cells = cells_of ss h.count h.first }

-- what slots and heads mean, with that many records and cells left
abbrev pub model_of : List Slot → List (Head ℕ) → ℕ → ℕ → Records
model_of ss hs spare space = record { records = map (rec_of ss) hs; records_left = spare; cells_left = space }

abbrev pub slot_in : List Slot → Option (Head ℕ) → ℕ → Option ℕ
slot_in ss None j = None
slot_in ss (Some h) j = slice_get (chain ss h.count h.first) j

-- the slot of a cell of a record
abbrev pub slot_at : List Slot → List (Head ℕ) → ℕ → ℕ → Option ℕ
slot_at ss hs r j = slot_in ss (by_number hs r) j
