-- Slots that are linked in their order are one chain.
use Rattle.std.proofs.Common.{◌≡◌, ℕ, zero, suc, ◌+◌, ◌<◌, ◌≤◌, true, not, eqb, ltb, List, [], length, refl, ap, ◌∙◌, arith}
use Rattle.std.proofs.lemmas.Bool.{and_from, lt-ltb, ne_eqb, not_from_false}
use Rattle.slips.specs.declared.slot.Slot.{Slot}
use Rattle.store.specs.declared.head.Head.{Head}
use Rattle.slips.specs.Chains.{is_distinct, slot, chain, within, linked, InOrder}
use Rattle.slips.proofs.Passing.{outside}

module _ (ss : List Slot) (o : InOrder ss) where
  fresh_within : (n i : ℕ) → i + n ≤ length ss → within ss (chain ss n i) ≡ true
  fresh_within zero i l = refl
  fresh_within (suc n) i l =
      let e = o i (omega arith) in
      and_from (ltb i (length ss)) (within ss (chain ss n (slot ss i).next)) (lt-ltb i (length ss) (omega arith)) (fresh_within n (slot ss i).next (omega arith))

  fresh_outside : (x n i : ℕ) → x < i → i + n ≤ length ss → outside x (chain ss n i) ≡ true
  fresh_outside x zero i b l = refl
  fresh_outside x (suc n) i b l =
      let e = o i (omega arith) in
      and_from (not (eqb x i)) (outside x (chain ss n (slot ss i).next)) (not_from_false (eqb x i) (ne_eqb x i (λ s. omega arith))) (fresh_outside x n (slot ss i).next (omega arith) (omega arith))

  fresh_distinct : (n i : ℕ) → i + n ≤ length ss → is_distinct (chain ss n i) ≡ true
  fresh_distinct zero i l = refl
  fresh_distinct (suc n) i l =
      let e = o i (omega arith) in
      and_from (outside i (chain ss n (slot ss i).next)) (is_distinct (chain ss n (slot ss i).next)) (fresh_outside i n (slot ss i).next (omega arith) (omega arith)) (fresh_distinct n (slot ss i).next (omega arith))

  pub fresh_linked : linked ss [] 0 (length ss) ≡ true
  fresh_linked = and_from (is_distinct (chain ss (length ss) 0)) (within ss (chain ss (length ss) 0)) (fresh_distinct (length ss) 0 (omega arith)) (fresh_within (length ss) 0 (omega arith))

pub fresh_empty : (ts ss : List Slot) (hs : List (Head ℕ)) (n : ℕ) → InOrder ss → ts ≡ ss → hs ≡ [] → n ≡ length ss → linked ts hs 0 n ≡ true
fresh_empty ts ss hs n o e f l = ap (λ us. linked us hs 0 n) e ∙ ap (λ gs. linked ss gs 0 n) f ∙ ap (linked ss [] 0) l ∙ fresh_linked ss o
