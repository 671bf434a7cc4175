-- A cell that is absent is not written.
use Rattle.std.proofs.Common.{◌≡◌, ℕ, zero, suc, ◌≤◌, List, [], ◌∷◌, length, None, refl, ap, arith}
use Rattle.std.specs.List.{slice_get}
use Rattle.std.proofs.lemmas.List.{set_past}
use Rattle.values.specs.declared.value.Value.{Value}
use Rattle.store.specs.Model.{Rec, Records, cell_at, cell_in, with_value_at, with_cell}

nth_none : {X : Type 0} (xs : List X) (j : ℕ) → slice_get xs j ≡ None → length xs ≤ j
nth_none [] j e = omega arith
nth_none (x ∷ xs) zero e = let z : ◌≡◌ {A = ℕ} 0 1 = cc in absurd (omega arith)
nth_none (x ∷ xs) (suc j) e = let h = nth_none xs j e in omega arith

records_absent : (xs : List Rec) (i j : ℕ) (v : Value) → cell_in (slice_get xs i) j ≡ None → with_value_at xs i j v ≡ xs
records_absent [] i j v e = refl
records_absent (x ∷ xs) zero j v e = ap (λ (cs : List Value). record { class = x.class; cells = cs } ∷ xs) (set_past x.cells j v (nth_none x.cells j e))
records_absent (x ∷ xs) (suc i) j v e = ap (λ ys. x ∷ ys) (records_absent xs i j v e)

pub absent : (m : Records) (r j : ℕ) (v : Value) → cell_at m r j ≡ None → with_cell m r j v ≡ m
absent m zero j v e = refl
absent m (suc i) j v e = ap (λ (rs : List Rec). record { records = rs; records_left = m.records_left; cells_left = m.cells_left }) (records_absent m.records i j v e)
