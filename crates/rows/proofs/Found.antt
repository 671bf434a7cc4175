-- What a store of rows answers at a record's number, and what a write leaves.
use Rattle.std.specs.Prelude.{◌≡◌, ℕ, zero, suc, refl, ◌+◌, ◌-◌, ◌<◌, ◌≤◌, ◌⊎◌, List, [], ◌∷◌, ◌++◌, length, take, drop, replicate, Some, None, Option, MatchOption, vec_items, vec_len, slice_index_or, slice_set}
use Rattle.std.proofs.Common.{sym, ap, ◌∙◌, ⊎_elim, arith}
use Rattle.std.specs.Option.{IsSomeAnd}
use Rattle.std.proofs.lemmas.Bool.{cases_lt}
use Rattle.std.proofs.Math.Logic.{inl, inr}
use Rattle.std.proofs.lemmas.List.{length-replicate, length_push}
use Rattle.std.proofs.lemmas.Option.{none-some, slice_get_within, slice_get-get_or, get_or_from_slice_get}
use Rattle.values.specs.declared.value.Value.{Value}
use Rattle.values.specs.declared.value.Value.TheVariants.{Null}
use Rattle.store.specs.Numbers.{by_number}
use Rattle.store.specs.Model.{record_at, class_in, cell_in, class_at, cell_at, with_cell, with_record, blank}
use Rattle.rows.specs.Meaning.{no_head, cut, meaning, Stands, Lies}
use Rattle.store.specs.declared.head.Head.{Head}
use Rattle.rows.specs.declared.held.Rows.{Rows}
use Rattle.rows.specs.Counted.{tiled_at, tiled_from, records_counted}
use Rattle.rows.proofs.Cuts.{at_none, at_some, head_within, cell_there, cell_absent, written, cut_push}

module _ {m n : ℕ} (s : Rows m n) (r : ℕ) where
  hs : List (Head ℕ)
  hs = vec_items s.heads

  vs : List Value
  vs = vec_items s.cells

  pub none_at : (r ≡ 0) ⊎ (vec_len s.heads < r) → record_at (meaning s) r ≡ None
  unfolding hs vs
  none_at h = at_none hs vs s.records_left s.cells_left r (⊎_elim (λ e. inl e) (λ l. inr (omega (arith, s.heads.ok.0))) h)

  module _ (h : Head ℕ) (st : Stands s r h) where
    within : r ≤ length (vec_items s.heads)
    within = let a = st.high in omega (arith, s.heads.ok.0)

    pub some_at : record_at (meaning s) r ≡ Some (record { class = h.class; cells = take h.count (drop h.first (vec_items s.cells)) })
    unfolding hs vs
    some_at = at_some hs vs s.records_left s.cells_left r h (tiled_at s) st.low within st.isa

    pub reach : h.first + h.count ≤ vec_len s.cells
    unfolding hs vs
    reach = let a = head_within hs (length vs) r h (tiled_at s) st.low within st.isa in omega (arith, a, s.cells.ok.0)

    pub value_absent : (j : ℕ) → h.count ≤ j → cell_at (meaning s) r j ≡ None
    value_absent j l = ap (λ o. cell_in o j) some_at ∙ cell_absent (vec_items s.cells) h.first h.count j l

    pub value_there : (j : ℕ) (d : Value) → j < h.count → cell_at (meaning s) r j ≡ Some (slice_index_or (vec_items s.cells) (h.first + j) d)
    value_there j d l = ap (λ o. cell_in o j) some_at ∙ cell_there (vec_items s.cells) h.first h.count j d (let a = reach in omega (arith, a, s.cells.ok.0)) l

    pub value_written : (j : ℕ) (v : Value) → j < h.count →
        record { records = cut (vec_items s.heads) (slice_set (vec_items s.cells) (h.first + j) v); records_left = s.records_left; cells_left = s.cells_left } ≡ with_cell (meaning s) r j v
    unfolding hs vs
    value_written j v l = written hs vs s.records_left s.cells_left r j v h (tiled_at s) st.low within st.isa l

-- one more record, of nulls
pub appended : {m n : ℕ} (s : Rows m n) (h : Head ℕ) (heads : List (Head ℕ)) (cells : List Value) → heads ≡ vec_items s.heads ++ h ∷ [] → cells ≡ vec_items s.cells ++ replicate h.count Null →
    record { records = cut heads cells; records_left = s.records_left - 1; cells_left = s.cells_left - h.count } ≡ with_record (meaning s) h.class h.count
appended s h heads cells p q =
    let old = vec_items s.heads in
    ap (λ rs. record { records = rs; records_left = s.records_left - 1; cells_left = s.cells_left - h.count })
    (ap (λ xs. cut xs cells) p ∙ ap (cut (old ++ h ∷ [])) q ∙ cut_push old (vec_items s.cells) (replicate h.count Null) h 0 (tiled_from s) (length-replicate h.count Null))

pub added : {m n : ℕ} (s : Rows m n) (hs : List (Head ℕ)) (vs : List Value) (c k f : ℕ) → hs ≡ vec_items s.heads ++ record { class = c; first = f; count = k } ∷ [] → vs ≡ vec_items s.cells ++ replicate k Null →
    record { records = cut hs vs; records_left = s.records_left - 1; cells_left = s.cells_left - k } ≡ with_record (meaning s) c k
added s heads cells c k f p q = appended s (record { class = c; first = f; count = k }) heads cells p q

-- the number of a new record
pub numbered : {m n : ℕ} (s t : Rows m n) (c k : ℕ) → meaning t ≡ with_record (meaning s) c k → m - t.records_left ≡ length (meaning s).records + 1
numbered s t c k e =
    let a = records_counted t in
    let b = ap (λ x. length x.records) e ∙ length_push (meaning s).records (blank c k) in
    omega (arith, a, b)

-- what the entry of a record says
no_entry : (es : List (Head ℕ)) (r : ℕ) → by_number es r ≡ None → (r ≡ 0) ⊎ (length es < r)
no_entry es zero e = inl refl
no_entry es (suc i) e =
    ⊎_elim (λ l. absurd (none-some _ (sym e ∙ slice_get-get_or es i no_head l))) (λ l. inr (omega arith)) (cases_lt i (length es))

pub absent_by : {m n : ℕ} (s : Rows m n) (r : ℕ) (es : List (Head ℕ)) → es ≡ vec_items s.heads → None ≡ by_number es r → (r ≡ 0) ⊎ (vec_len s.heads < r)
absent_by s r es q e = ⊎_elim (λ z. inl z) (λ l. inr (omega (arith, s.heads.ok.0))) (no_entry (vec_items s.heads) r (ap (λ xs. by_number xs r) (sym q) ∙ sym e))

entry_stands : {m n : ℕ} (s : Rows m n) (r : ℕ) (h : Head ℕ) → by_number (vec_items s.heads) r ≡ Some h → Stands s r h
entry_stands s zero h e = absurd (none-some h e)
entry_stands s (suc i) h e =
    let l = slice_get_within (vec_items s.heads) i h e in
    let d : suc i - 1 ≡ i = omega arith in
    record { low = omega arith; high = omega (arith, s.heads.ok.0); isa = sym (ap (λ j. slice_index_or (vec_items s.heads) j no_head) d ∙ get_or_from_slice_get (vec_items s.heads) i h no_head e) }

pub stands_by : {m n : ℕ} (s : Rows m n) (r : ℕ) (h : Head ℕ) (es : List (Head ℕ)) → es ≡ vec_items s.heads → Some h ≡ by_number es r → Stands s r h
stands_by s r h es q e = entry_stands s r h (ap (λ xs. by_number xs r) (sym q) ∙ sym e)

-- what a store answers, by its heads and cells
pub class_none : {m n : ℕ} (s : Rows m n) (r : ℕ) → (r ≡ 0) ⊎ (vec_len s.heads < r) → class_at (meaning s) r ≡ None
class_none s r h = ap class_in (none_at s r h)

pub class_some : {m n : ℕ} (s : Rows m n) (r : ℕ) (h : Head ℕ) → Stands s r h → class_at (meaning s) r ≡ Some h.class
class_some s r h st = ap class_in (some_at s r h st)

pub cell_none : {m n : ℕ} (s : Rows m n) (r j : ℕ) → (r ≡ 0) ⊎ (vec_len s.heads < r) → cell_at (meaning s) r j ≡ None
cell_none s r j h = ap (λ o. cell_in o j) (none_at s r h)

pub lies_within : {m n : ℕ} (s : Rows m n) (r j p : ℕ) → Lies s r j p → p < vec_len s.cells
lies_within s r j p l = let i = l.inside in let e = l.isa in omega (arith, reach s r l.head l.stands)

pub cell_some : {m n : ℕ} (s : Rows m n) (r j p : ℕ) (d : Value) → Lies s r j p → cell_at (meaning s) r j ≡ Some (slice_index_or (vec_items s.cells) p d)
cell_some s r j p d l = value_there s r l.head l.stands j d l.inside ∙ ap (λ q. Some (slice_index_or (vec_items s.cells) q d)) (sym l.isa)

pub cell_written : {m n : ℕ} (s : Rows m n) (r j p : ℕ) (v : Value) → Lies s r j p →
    record { records = cut (vec_items s.heads) (slice_set (vec_items s.cells) p v); records_left = s.records_left; cells_left = s.cells_left } ≡ with_cell (meaning s) r j v
cell_written s r j p v l =
    ap (λ q. record { records = cut (vec_items s.heads) (slice_set (vec_items s.cells) q v); records_left = s.records_left; cells_left = s.cells_left }) l.isa ∙ value_written s r l.head l.stands j v l.inside

-- the same, where a lookup was mapped
pub class_mapped : {m n : ℕ} (s : Rows m n) (r : ℕ) (o : Option (Head ℕ)) (a : Option ℕ) (Q : Head ℕ → ℕ → Type 0) (es : List (Head ℕ)) → es ≡ vec_items s.heads → o ≡ by_number es r →
    MatchOption o (a ≡ None) (λ h. IsSomeAnd a (Q h)) → ((h : Head ℕ) (c : ℕ) → Q h c → c ≡ h.class) → a ≡ class_at (meaning s) r
class_mapped s r None a Q es p m e q = e ∙ sym (class_none s r (absent_by s r es p m))
class_mapped s r (Some h) None Q es p m e q = absurd e
class_mapped s r (Some h) (Some c) Q es p m e q = ap Some (q h c e) ∙ sym (class_some s r h (stands_by s r h es p m))
