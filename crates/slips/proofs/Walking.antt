-- Chains taken apart, and what one more link adds.
use Rattle.std.specs.Prelude.{◌≡◌, ℕ, zero, suc, ◌+◌, ◌<◌, ◌≤◌, Bool, true, ltb, List, [], ◌∷◌, ◌++◌, length, Some, nat_lt, refl}
use Rattle.std.proofs.Common.{sym, ap, ◌∙◌, zero-add, suc-add, arith}
use Rattle.std.specs.List.{slice_get, list_all}
use Rattle.std.proofs.lemmas.List.{append_assoc, append-nil}
use Rattle.std.proofs.lemmas.Bool.{and_parts, and_from, ltb-true}
use Rattle.slips.specs.declared.slot.Slot.{Slot}
use Rattle.store.specs.declared.head.Head.{Head}
use Rattle.slips.specs.Chains.{slot, after, chain, within, used, counts}
use Rattle.slips.proofs.Passing.{all_parts, all_nth}

pub chain_split : (ss : List Slot) (n m i : ℕ) → chain ss (n + m) i ≡ chain ss n i ++ chain ss m (after ss n i)
chain_split ss zero m i = rw zero-add
chain_split ss (suc n) m i = rw suc-add (ap (λ xs. i ∷ xs) (chain_split ss n m (slot ss i).next))

pub chain_more : (ss : List Slot) (n i : ℕ) → chain ss (n + 1) i ≡ chain ss n i ++ after ss n i ∷ []
chain_more ss n i = chain_split ss n 1 i

pub after_more : (ss : List Slot) (n i : ℕ) → after ss (n + 1) i ≡ (slot ss (after ss n i)).next
after_more ss zero i = refl
after_more ss (suc n) i = rw suc-add (after_more ss n (slot ss i).next)

pub nth_chain : (ss : List Slot) (n i j : ℕ) → j < n → slice_get (chain ss n i) j ≡ Some (after ss j i)
nth_chain ss zero i j l = absurd (omega arith)
nth_chain ss (suc n) i zero l = refl
nth_chain ss (suc n) i (suc j) l = nth_chain ss n (slot ss i).next j (omega arith)

-- a slot along a chain that is there is there
pub after_within : (ss : List Slot) (n i j : ℕ) → j < n → within ss (chain ss n i) ≡ true → after ss j i < length ss
after_within ss n i j l h = ltb-true (after ss j i) (length ss) (all_nth (λ x. ltb x (length ss)) (chain ss n i) j (after ss j i) h (nth_chain ss n i j l))

pub front_within : (ss : List Slot) (n i j : ℕ) → j ≤ n → within ss (chain ss n i) ≡ true → within ss (chain ss j i) ≡ true
front_within ss n i zero l h = refl
front_within ss zero i (suc j) l h = absurd (omega arith)
front_within ss (suc n) i (suc j) l h =
    let a = and_parts (nat_lt i (length ss)) (within ss (chain ss n (slot ss i).next)) h in
    and_from (nat_lt i (length ss)) (within ss (chain ss j (slot ss i).next)) a.0 (front_within ss n (slot ss i).next j (omega arith) a.1)

-- one more record
pub used_push : (ss : List Slot) (hs : List (Head ℕ)) (h : Head ℕ) → used ss (hs ++ h ∷ []) ≡ used ss hs ++ chain ss h.count h.first
used_push ss [] h = append-nil (chain ss h.count h.first)
used_push ss (g ∷ hs) h = ap (λ xs. chain ss g.count g.first ++ xs) (used_push ss hs h) ∙ sym (append_assoc (chain ss g.count g.first) (used ss hs) (chain ss h.count h.first))

pub counts_push : (hs : List (Head ℕ)) (h : Head ℕ) → counts (hs ++ h ∷ []) ≡ counts hs + h.count
counts_push [] h = omega arith
counts_push (g ∷ hs) h = let e = counts_push hs h in omega arith

pub counts_pushed : (hs gs : List (Head ℕ)) (h : Head ℕ) → gs ≡ hs ++ h ∷ [] → counts gs ≡ counts hs + h.count
counts_pushed hs gs h e = ap counts e ∙ counts_push hs h

-- what all slots of the records pass, those of one record pass
pub used_nth : (p : ℕ → Bool) (ss : List Slot) (hs : List (Head ℕ)) (i : ℕ) (h : Head ℕ) → list_all p (used ss hs) ≡ true → slice_get hs i ≡ Some h → list_all p (chain ss h.count h.first) ≡ true
used_nth p ss [] i h a e = let z : ◌≡◌ {A = ℕ} 0 1 = cc in absurd (omega arith)
used_nth p ss (g ∷ hs) zero h a e = let same : h ≡ g = cc in ap (λ (x : Head ℕ). list_all p (chain ss x.count x.first)) same ∙ (all_parts p (chain ss g.count g.first) (used ss hs) a).0
used_nth p ss (g ∷ hs) (suc i) h a e = used_nth p ss hs i h (all_parts p (chain ss g.count g.first) (used ss hs) a).1 e
