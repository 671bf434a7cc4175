-- What holds of every row of the table of kinds, by one test that is computed over the whole table.
use Rattle.std.proofs.Common.{◌≡◌, ℕ, zero, suc, ◌+◌, ◌-◌, ◌<◌, ◌≤◌, Bool, true, ◌&&◌, eqb, leb, List, [], ◌∷◌, length, get_or, refl, ◌∙◌, subst, arith, eqb-true, leb-true}
use Rattle.std.proofs.lemmas.Bool.{and_parts}
use Rattle.table.specs.Kinds.{KindRow, table, row, row_of, number_of}
use Rattle.table.specs.declared.kinds.Kind.TheVariants.{Program}
use Rattle.table.specs.declared.kinds.Word.TheVariants.{Zero}

-- the test f passes at each entry of the list and its place, counted from i
abbrev every : {X : Type 0} → (ℕ → X → Bool) → ℕ → List X → Bool
every f i [] = true
every f i (x ∷ xs) = f i x && every f (i + 1) xs

every_at : {X : Type 0} (f : ℕ → X → Bool) (d : X) (i : ℕ) (xs : List X) → every f i xs ≡ true → (k : ℕ) → k < length xs → f (i + k) (get_or xs k d) ≡ true
every_at f d i [] t k h = absurd (omega arith)
every_at f d i (x ∷ xs) t zero h = subst (λ m. f m x ≡ true) (omega arith) (and_parts _ _ t).0
every_at f d i (x ∷ xs) t (suc k) h = subst (λ m. f m (get_or xs k d) ≡ true) (omega arith) (every_at f d (i + 1) xs (and_parts (f i x) _ t).1 k (omega arith))

-- at most four children, and the rows in the order of the kinds' numbers
abbrev right : ℕ → KindRow → Bool
right i r = leb (length r.children) 4 && eqb (number_of r.kind) (i + 1)

row_right : (k : ℕ) → 1 ≤ k → k ≤ 48 → (length (row_of k).children ≤ 4) × (number_of (row_of k).kind ≡ k)
row_right k l h =
    let r = row_of k in
    let t = and_parts (leb (length r.children) 4) (eqb (number_of r.kind) (0 + (k - 1) + 1)) (every_at right (row Program [] Zero) 0 table refl (k - 1) (omega arith)) in
    (leb-true _ _ t.0, eqb-true _ _ t.1 ∙ omega arith)

pub row_narrow : (k : ℕ) → 1 ≤ k → k ≤ 48 → length (row_of k).children ≤ 4
row_narrow k l h = (row_right k l h).0

pub row_numbered : (k : ℕ) → 1 ≤ k → k ≤ 48 → number_of (row_of k).kind ≡ k
row_numbered k l h = (row_right k l h).1
