-- Every change keeps the balance of what is used and what is left.
use Rattle.std.proofs.Common.{◌≡◌, ℕ, zero, suc, ◌+◌, ◌<◌, true, cond, ltb, List, [], ◌∷◌, ◌++◌, length, get_or, take, sym, refl, ap, ◌∙◌, subst, inl, inr, arith, ltb-true, leb-true}
use Rattle.std.proofs.lemmas.List.{take_more, length_push, length-set, length-replicate}
use Rattle.std.proofs.lemmas.Bool.{and_parts, cases_Bool}
use Rattle.values.specs.declared.value.Value.{Value}
use Rattle.values.specs.declared.value.Value.TheVariants.{Null}
use Rattle.store.specs.Model.{Rec, Records, room, cleared, blank, with_record, with_value_at, cells_used}
use Rattle.store.specs.History.{changed, played, Balance, Balances}
use Rattle.store.specs.declared.history.Change.{Change}
use Rattle.store.specs.declared.history.Change.TheVariants.{Create, Write}

used_push : (xs : List Rec) (x : Rec) → cells_used (xs ++ x ∷ []) ≡ cells_used xs + length x.cells
used_push [] x = omega arith
used_push (y ∷ ys) x = let h = used_push ys x in omega arith

same_count : (xs : List Rec) (i j : ℕ) (v : Value) → length (with_value_at xs i j v) ≡ length xs
same_count [] i j v = refl
same_count (x ∷ xs) zero j v = refl
same_count (x ∷ xs) (suc i) j v = ap suc (same_count xs i j v)

same_used : (xs : List Rec) (i j : ℕ) (v : Value) → cells_used (with_value_at xs i j v) ≡ cells_used xs
same_used [] i j v = refl
same_used (x ∷ xs) zero j v = ap (λ n. n + cells_used xs) (length-set x.cells j v)
same_used (x ∷ xs) (suc i) j v = ap (λ n. length x.cells + n) (same_used xs i j v)

module _ (r c : ℕ) where
  created : (m : Records) (n k : ℕ) → Balance r c m → room m k ≡ true → Balance r c (with_record m n k)
  created m n k b t =
      let p = and_parts (ltb 0 m.records_left) _ t in
      let l = ltb-true 0 m.records_left p.0 in
      let w = leb-true k m.cells_left p.1 in
      let u = b.of_records in
      let v = b.of_cells in
      record {
        of_records = omega (arith, length_push m.records (blank n k));
        of_cells = omega (arith, used_push m.records (blank n k), length-replicate k Null);
      }

  kept : (m : Records) (x : Change) → Balance r c m → Balance r c (changed m x)
  kept m (Create n k) b =
      elim (cases_Bool (room m k)) [
        | inl t ↦ subst (λ q. Balance r c (cond q (with_record m n k) m)) (sym t) (created m n k b t)
        | inr f ↦ subst (λ q. Balance r c (cond q (with_record m n k) m)) (sym f) b
      ]
  kept m (Write zero j v) b = b
  kept m (Write (suc i) j v) b =
      let u = b.of_records in
      let w = b.of_cells in
      record { of_records = omega (arith, same_count m.records i j v); of_cells = omega (arith, same_used m.records i j v) }

  stays : (cs : List Change) (m : Records) → Balance r c m → Balance r c (played m cs)
  stays [] m b = b
  stays (x ∷ cs) m b = stays cs (changed m x) (kept m x b)

  pub balances : Balances r c
  balances cs = stays cs (cleared r c) (record { of_records = omega arith; of_cells = omega arith })

played_append : (m : Records) (xs ys : List Change) → played m (xs ++ ys) ≡ played (played m xs) ys
played_append m [] ys = refl
played_append m (x ∷ xs) ys = played_append (changed m x) xs ys

pub played_more : (m : Records) (xs : List Change) (i : ℕ) (d : Change) → i < length xs → played m (take (i + 1) xs) ≡ changed (played m (take i xs)) (get_or xs i d)
played_more m xs i d l = ap (played m) (take_more xs i d l) ∙ played_append m (take i xs) (get_or xs i d ∷ [])
