-- What heads and slots that are linked say about the records.
use Rattle.std.specs.Prelude.{◌≡◌, ℕ, zero, suc, ◌+◌, ◌-◌, ◌<◌, ◌≤◌, Bool, true, ◌&&◌, List, [], ◌∷◌, ◌++◌, map, length, replicate, Some, None, Option, nat_lt, refl}
use Rattle.std.proofs.Common.{sym, ap, ◌∙◌, arith}
use Rattle.std.specs.List.{slice_get, list_all}
use Rattle.std.specs.Option.{option_map}
use Rattle.std.proofs.lemmas.List.{append_assoc, map-append}
use Rattle.std.proofs.lemmas.Option.{slice_get-map}
use Rattle.std.proofs.lemmas.Bool.{and_parts, ltb-true}
use Rattle.values.specs.declared.value.Value.{Value}
use Rattle.values.specs.declared.value.Value.TheVariants.{Null}
use Rattle.store.specs.Model.{Rec, blank, record_at, cell_in, cell_at, with_value_at, with_cell}
use Rattle.store.specs.Numbers.{by_number}
use Rattle.slips.specs.declared.slot.Slot.{Slot}
use Rattle.store.specs.declared.head.Head.{Head}
use Rattle.slips.specs.Chains.{is_distinct, after, chain, value_at, within, with_slot, nulled, used, every, linked, rec_of, model_of, slot_in, slot_at}
use Rattle.slips.proofs.Passing.{outside, all_parts, all_nth, distinct_left, right_outside}
use Rattle.slips.specs.Counted.{length_chain}
use Rattle.slips.proofs.Walking.{chain_split, front_within, used_push, used_nth}
use Rattle.slips.proofs.Writing.{SameLinks, chain_same, used_same, records_here, length_nulled, nulled_links, nulled_values, nulled_records}

-- links and number of the slots say whether they are linked
pub linked_same : (ts ss : List Slot) (hs : List (Head ℕ)) (f n : ℕ) → SameLinks ts ss → length ts ≡ length ss → linked ts hs f n ≡ linked ss hs f n
linked_same ts ss hs f n same long =
    let sound : ℕ → List ℕ → Bool = λ k xs. is_distinct xs && list_all (λ x. nat_lt x k) xs in
    ap (λ k. sound k (every ts hs f n)) long ∙ ap (λ us. sound (length ss) (us ++ chain ts n f)) (used_same ts ss same hs) ∙ ap (λ xs. sound (length ss) (used ss hs ++ xs)) (chain_same ts ss same n f)

module _ (ss : List Slot) (hs : List (Head ℕ)) where
  -- a record by its number has the class and the chain of its head
  pub record_is : (r s n : ℕ) → record_at (model_of ss hs s n) r ≡ option_map (rec_of ss) (by_number hs r)
  record_is zero s n = refl
  record_is (suc i) s n = slice_get-map (rec_of ss) hs i

  cell_of : (o : Option (Head ℕ)) (j : ℕ) → cell_in (option_map (rec_of ss) o) j ≡ option_map (value_at ss) (slot_in ss o j)
  cell_of None j = refl
  cell_of (Some h) j = slice_get-map (value_at ss) (chain ss h.count h.first) j

  -- a cell holds what its slot does
  pub cell_is : (r j s n : ℕ) → cell_at (model_of ss hs s n) r j ≡ option_map (value_at ss) (slot_at ss hs r j)
  cell_is r j s n = ap (λ o. cell_in o j) (record_is r s n) ∙ cell_of (by_number hs r) j

  module _ (f n : ℕ) (ok : linked ss hs f n ≡ true) where
    all_distinct : is_distinct (every ss hs f n) ≡ true
    all_distinct = (and_parts (is_distinct (every ss hs f n)) (within ss (every ss hs f n)) ok).0

    all_within : (within ss (used ss hs) ≡ true) × (within ss (chain ss n f) ≡ true)
    all_within = all_parts (λ x. nat_lt x (length ss)) (used ss hs) (chain ss n f) (and_parts (is_distinct (every ss hs f n)) (within ss (every ss hs f n)) ok).1

    -- the chain of a record is there
    pub head_within : (r : ℕ) (h : Head ℕ) → Some h ≡ by_number hs r → within ss (chain ss h.count h.first) ≡ true
    head_within zero h e = let z : ◌≡◌ {A = ℕ} 0 1 = cc in absurd (omega arith)
    head_within (suc i) h e = used_nth (λ x. nat_lt x (length ss)) ss hs i h all_within.0 (sym e)

    slot_of : (r j a : ℕ) (o : Option (Head ℕ)) → o ≡ by_number hs r → Some a ≡ slot_in ss o j → a < length ss
    slot_of r j a None o e = let z : ◌≡◌ {A = ℕ} 0 1 = cc in absurd (omega arith)
    slot_of r j a (Some h) o e = ltb-true a (length ss) (all_nth (λ x. nat_lt x (length ss)) (chain ss h.count h.first) j a (head_within r h o) (sym e))

    -- the slot of a cell is there
    pub slot_within : (r j a : ℕ) → Some a ≡ slot_at ss hs r j → a < length ss
    slot_within r j a e = slot_of r j a (by_number hs r) refl e

    module _ (a : ℕ) (v : Value) where
      written_in : (i j : ℕ) (o : Option (Head ℕ)) → slice_get hs i ≡ o → Some a ≡ slot_in ss o j → a < length ss → map (rec_of (with_slot ss a v)) hs ≡ with_value_at (map (rec_of ss) hs) i j v
      written_in i j None o e l = let z : ◌≡◌ {A = ℕ} 0 1 = cc in absurd (omega arith)
      written_in i j (Some h) o e l = records_here ss a v l hs i j h o (sym e) (distinct_left (used ss hs) (chain ss n f) all_distinct)

      -- a write to the slot of a cell changes that cell
      pub written : (r j s m : ℕ) → Some a ≡ slot_at ss hs r j → model_of (with_slot ss a v) hs s m ≡ with_cell (model_of ss hs s m) r j v
      written zero j s m e = let z : ◌≡◌ {A = ℕ} 0 1 = cc in absurd (omega arith)
      written (suc i) j s m e =
          ap (λ (rs : List Rec). record { records = rs; records_left = s; cells_left = m }) (written_in i j (slice_get hs i) refl e (slot_within (suc i) j a e))

    -- a new record of k cells, in the first k slots of the free chain
    module _ (k class : ℕ) (fits : k ≤ n) where
      abbrev front : List ℕ
      front = chain ss k f

      abbrev head : Head ℕ
      head = record { class = class; first = f; count = k }

      split : chain ss n f ≡ front ++ chain ss (n - k) (after ss k f)
      split = let e : n ≡ k + (n - k) = omega arith in ap (λ m. chain ss m f) e ∙ chain_split ss k (n - k) f

      pub front_there : within ss front ≡ true
      front_there = front_within ss n f k fits all_within.1

      front_outside : list_all (λ x. outside x (used ss hs)) front ≡ true
      front_outside =
          (all_parts (λ x. outside x (used ss hs)) front (chain ss (n - k) (after ss k f))
          (ap (list_all (λ x. outside x (used ss hs))) (sym split) ∙ right_outside (used ss hs) (chain ss n f) all_distinct)).0

      every_same : every ss (hs ++ head ∷ []) (after ss k f) (n - k) ≡ every ss hs f n
      every_same =
          ap (λ xs. xs ++ chain ss (n - k) (after ss k f)) (used_push ss hs head) ∙ append_assoc (used ss hs) front (chain ss (n - k) (after ss k f)) ∙ ap (λ xs. used ss hs ++ xs) (sym split)

      pub created_linked : linked (nulled ss front) (hs ++ head ∷ []) (after ss k f) (n - k) ≡ true
      created_linked =
          linked_same (nulled ss front) ss (hs ++ head ∷ []) (after ss k f) (n - k) (nulled_links ss front) (length_nulled ss front)
          ∙ ap (λ xs. is_distinct xs && within ss xs) every_same ∙ ok

      blank_cells : map (value_at (nulled ss front)) (chain (nulled ss front) k f) ≡ replicate k Null
      blank_cells =
          ap (map (value_at (nulled ss front))) (chain_same (nulled ss front) ss (nulled_links ss front) k f) ∙ nulled_values ss front ∙ ap (λ m. replicate m Null) (length_chain ss k f)

      pub created_records : map (rec_of (nulled ss front)) (hs ++ head ∷ []) ≡ map (rec_of ss) hs ++ blank class k ∷ []
      created_records =
          map-append (rec_of (nulled ss front)) hs (head ∷ [])
          ∙ ap (λ rs. rs ++ rec_of (nulled ss front) head ∷ []) (nulled_records ss hs front front_outside)
          ∙ ap (λ (vs : List Value). map (rec_of ss) hs ++ (record { class = class; cells = vs } ∷ [])) blank_cells
