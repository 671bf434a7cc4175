-- What a write to the value of one slot, and to those of many, does to chains and records.
use Rattle.std.specs.Prelude.{◌≡◌, ℕ, zero, suc, ◌<◌, true, not, List, [], ◌∷◌, ◌++◌, map, length, set, replicate, Some, ◌==◌, ◌≢◌, slice_index_or, slice_set, refl}
use Rattle.std.proofs.Common.{sym, ap, ◌∙◌, ⊎_elim, arith, length-set}
use Rattle.std.specs.List.{slice_get, list_all}
use Rattle.std.proofs.lemmas.List.{get_or-set_same, get_or-set_other, get_or_read, set_past, get_or_past}
use Rattle.std.proofs.lemmas.Bool.{and_parts, not-true, eqb-false, cases_eq, cases_lt}
use Rattle.values.specs.declared.value.Value.{Value}
use Rattle.values.specs.declared.value.Value.TheVariants.{Null}
use Rattle.store.specs.Model.{Rec, with_value, with_value_at}
use Rattle.slips.specs.declared.slot.Slot.{Slot}
use Rattle.store.specs.declared.head.Head.{Head}
use Rattle.slips.specs.Chains.{is_distinct, no_slot, slot, chain, value_at, with_slot, nulled, used, rec_of}
use Rattle.slips.proofs.Passing.{outside, all_parts, all_nth, distinct_left, distinct_right, left_outside, right_outside}
use Rattle.slips.proofs.Walking.{used_nth}

-- chains go by the links alone
abbrev pub SameLinks : List Slot → List Slot → Type 0
SameLinks ts ss = (i : ℕ) → (slot ts i).next ≡ (slot ss i).next

pub chain_same : (ts ss : List Slot) → SameLinks ts ss → (n i : ℕ) → chain ts n i ≡ chain ss n i
chain_same ts ss e zero i = refl
chain_same ts ss e (suc n) i = ap (λ k. i ∷ chain ts n k) (e i) ∙ ap (λ xs. i ∷ xs) (chain_same ts ss e n (slot ss i).next)

pub used_same : (ts ss : List Slot) → SameLinks ts ss → (hs : List (Head ℕ)) → used ts hs ≡ used ss hs
used_same ts ss e [] = refl
used_same ts ss e (h ∷ hs) = ap (λ xs. xs ++ used ts hs) (chain_same ts ss e h.count h.first) ∙ ap (λ xs. chain ss h.count h.first ++ xs) (used_same ts ss e hs)

module _ (ss : List Slot) (a : ℕ) (v : Value) where
  abbrev ts : List Slot
  ts = with_slot ss a v

  abbrev new : Slot
  new = record { value = v; next = (slot ss a).next }

  other : (i : ℕ) → (i ≢ a) → slot ts i ≡ slot ss i
  other i ne = get_or-set_other ss a i new no_slot ne

  pub value_here : a < length ss → value_at ts a ≡ v
  value_here l = ap (λ (s : Slot). s.value) (get_or-set_same ss a new no_slot l)

  next_here : (slot ts a).next ≡ (slot ss a).next
  next_here =
      ⊎_elim (λ l. ap (λ (s : Slot). s.next) (get_or-set_same ss a new no_slot l)) (λ past. ap (λ xs. (slot xs a).next) (set_past ss a new past)) (cases_lt a (length ss))

  pub next_same : SameLinks ts ss
  next_same i =
      ⊎_elim (λ e. ap (λ k. (slot ts k).next) e ∙ next_here ∙ ap (λ k. (slot ss k).next) (sym e)) (λ ne. ap (λ (s : Slot). s.next) (other i ne)) (cases_eq i a)

  pub value_other : (i : ℕ) → not (a == i) ≡ true → value_at ts i ≡ value_at ss i
  value_other i h = ap (λ (s : Slot). s.value) (other i (λ e. eqb-false a i (not-true (a == i) h) (sym e)))

  values_other : (xs : List ℕ) → outside a xs ≡ true → map (value_at ts) xs ≡ map (value_at ss) xs
  values_other [] h = refl
  values_other (x ∷ xs) h =
      let p = and_parts (not (a == x)) (outside a xs) h in
      ap (λ w. w ∷ map (value_at ts) xs) (value_other x p.0) ∙ ap (λ ws. value_at ss x ∷ ws) (values_other xs p.1)

  record_other : (h : Head ℕ) → outside a (chain ss h.count h.first) ≡ true → rec_of ts h ≡ rec_of ss h
  record_other h o =
      ap (λ (ws : List Value). record { class = h.class; cells = ws })
      (ap (map (value_at ts)) (chain_same ts ss next_same h.count h.first) ∙ values_other (chain ss h.count h.first) o)

  -- records that do not have the slot keep their cells
  pub records_other : (hs : List (Head ℕ)) → outside a (used ss hs) ≡ true → map (rec_of ts) hs ≡ map (rec_of ss) hs
  records_other [] o = refl
  records_other (h ∷ hs) o =
      let p = all_parts (λ y. not (a == y)) (chain ss h.count h.first) (used ss hs) o in
      ap (λ (x : Rec). x ∷ map (rec_of ts) hs) (record_other h p.0) ∙ ap (λ xs. rec_of ss h ∷ xs) (records_other hs p.1)

  module _ (l : a < length ss) where
    values_here : (xs : List ℕ) (j : ℕ) → slice_get xs j ≡ Some a → is_distinct xs ≡ true → map (value_at ts) xs ≡ slice_set (map (value_at ss) xs) j v
    values_here [] j e d = let z : ◌≡◌ {A = ℕ} 0 1 = cc in absurd (omega arith)
    values_here (x ∷ xs) zero e d =
        let same : x ≡ a = cc in
        let o = (and_parts (outside x xs) (is_distinct xs) d).0 in
        ap (λ w. w ∷ map (value_at ts) xs) (ap (value_at ts) same ∙ value_here l) ∙ ap (λ ws. v ∷ ws) (values_other xs (ap (λ k. outside k xs) (sym same) ∙ o))
    values_here (x ∷ xs) (suc j) e d =
        let p = and_parts (outside x xs) (is_distinct xs) d in
        let apart : not (x == a) ≡ true = all_nth (λ y. not (x == y)) xs j a p.0 e in
        ap (λ w. w ∷ map (value_at ts) xs) (ap (λ (s : Slot). s.value) (other x (eqb-false x a (not-true (x == a) apart)))) ∙ ap (λ ws. value_at ss x ∷ ws) (values_here xs j e p.1)

    record_here : (h : Head ℕ) (j : ℕ) → slice_get (chain ss h.count h.first) j ≡ Some a → is_distinct (chain ss h.count h.first) ≡ true → rec_of ts h ≡ with_value (rec_of ss h) j v
    record_here h j e d =
        ap (λ (ws : List Value). record { class = h.class; cells = ws })
        (ap (map (value_at ts)) (chain_same ts ss next_same h.count h.first) ∙ values_here (chain ss h.count h.first) j e d)

    -- the record that has the slot has one cell changed
    pub records_here : (hs : List (Head ℕ)) (i j : ℕ) (h : Head ℕ) → slice_get hs i ≡ Some h → slice_get (chain ss h.count h.first) j ≡ Some a → is_distinct (used ss hs) ≡ true → map (rec_of ts) hs ≡ with_value_at (map (rec_of ss) hs) i j v
    records_here [] i j h at e d = let z : ◌≡◌ {A = ℕ} 0 1 = cc in absurd (omega arith)
    records_here (g ∷ hs) zero j h at e d =
        let same : h ≡ g = cc in
        let xs = chain ss g.count g.first in
        let here : slice_get xs j ≡ Some a = ap (λ (x : Head ℕ). slice_get (chain ss x.count x.first) j) (sym same) ∙ e in
        let o = all_nth (λ x. outside x (used ss hs)) xs j a (left_outside xs (used ss hs) d) here in
        ap (λ (x : Rec). x ∷ map (rec_of ts) hs) (record_here g j here (distinct_left xs (used ss hs) d)) ∙ ap (λ ys. with_value (rec_of ss g) j v ∷ ys) (records_other hs o)
    records_here (g ∷ hs) (suc i) j h at e d =
        let xs = chain ss g.count g.first in
        let o = all_nth (λ y. outside y xs) (chain ss h.count h.first) j a (used_nth (λ y. outside y xs) ss hs i h (right_outside xs (used ss hs) d) at) e in
        ap (λ (x : Rec). x ∷ map (rec_of ts) hs) (record_other g o) ∙ ap (λ ys. rec_of ss g ∷ ys) (records_here hs i j h at e (distinct_right xs (used ss hs) d))

value_null : (ss : List Slot) (a : ℕ) → value_at (with_slot ss a Null) a ≡ Null
value_null ss a =
    ⊎_elim (λ l. value_here ss a Null l)
    (λ past. ap (λ xs. value_at xs a) (set_past ss a (record { value = Null; next = (slot ss a).next }) past) ∙ ap (λ (s : Slot). s.value) (get_or_past ss a no_slot past))
    (cases_lt a (length ss))

pub length_nulled : (ss : List Slot) (xs : List ℕ) → length (nulled ss xs) ≡ length ss
length_nulled ss [] = refl
length_nulled ss (x ∷ xs) = length_nulled (with_slot ss x Null) xs ∙ length-set ss x (record { value = Null; next = (slot ss x).next })

pub nulled_push : (ss : List Slot) (xs : List ℕ) (a : ℕ) → nulled ss (xs ++ a ∷ []) ≡ with_slot (nulled ss xs) a Null
nulled_push ss [] a = refl
nulled_push ss (x ∷ xs) a = nulled_push (with_slot ss x Null) xs a

pub nulled_links : (ss : List Slot) (xs : List ℕ) → SameLinks (nulled ss xs) ss
nulled_links ss [] i = refl
nulled_links ss (x ∷ xs) i = nulled_links (with_slot ss x Null) xs i ∙ next_same ss x Null i

stays_null : (ss : List Slot) (xs : List ℕ) (a : ℕ) → value_at ss a ≡ Null → value_at (nulled ss xs) a ≡ Null
stays_null ss [] a e = e
stays_null ss (x ∷ xs) a e =
    stays_null (with_slot ss x Null) xs a
    (⊎_elim (λ same. ap (value_at (with_slot ss x Null)) same ∙ value_null ss x) (λ ne. ap (λ (s : Slot). s.value) (other ss x Null a ne) ∙ e) (cases_eq a x))

pub nulled_values : (ss : List Slot) (xs : List ℕ) → map (value_at (nulled ss xs)) xs ≡ replicate (length xs) Null
nulled_values ss [] = refl
nulled_values ss (x ∷ xs) =
    let ts = with_slot ss x Null in
    ap (λ w. w ∷ map (value_at (nulled ts xs)) xs) (stays_null ts xs x (value_null ss x)) ∙ ap (λ ws. Null ∷ ws) (nulled_values ts xs)

pub nulled_records : (ss : List Slot) (hs : List (Head ℕ)) (xs : List ℕ) → list_all (λ x. outside x (used ss hs)) xs ≡ true → map (rec_of (nulled ss xs)) hs ≡ map (rec_of ss) hs
nulled_records ss hs [] h = refl
nulled_records ss hs (x ∷ xs) h =
    let ts = with_slot ss x Null in
    let p = and_parts (outside x (used ss hs)) (list_all (λ y. outside y (used ss hs)) xs) h in
    nulled_records ts hs xs (ap (λ us. list_all (λ y. outside y us) xs) (used_same ts ss (next_same ss x Null) hs) ∙ p.1) ∙ records_other ss x Null hs p.0

-- a write to the value of a slot that was read
pub with_read : (ss : List Slot) (a : ℕ) (x : Slot) (v : Value) → a < length ss → x ≡ slice_index_or ss a x → slice_set ss a (record { value = v; next = x.next }) ≡ with_slot ss a v
with_read ss a x v l e = ap (λ (y : Slot). set ss a (record { value = v; next = y.next })) (get_or_read ss a x l e no_slot)
