-- Tests of all elements of a list, and lists in which no number comes twice.
use Rattle.std.specs.Prelude.{◌≡◌, ℕ, zero, suc, Bool, true, not, List, [], ◌∷◌, ◌++◌, Some, ◌==◌, refl}
use Rattle.std.proofs.Common.{sym, ap, ◌∙◌, arith}
use Rattle.std.specs.List.{slice_get, list_all}
use Rattle.std.proofs.lemmas.List.Folds.{list_all-append}
use Rattle.std.proofs.lemmas.Bool.{and_parts, and_from, not-true, not_from_false, eqb-false, ne_eqb}
use Rattle.slips.specs.Chains.{is_distinct}

pub all_parts : {X : Type 0} (p : X → Bool) (xs ys : List X) → list_all p (xs ++ ys) ≡ true → (list_all p xs ≡ true) × (list_all p ys ≡ true)
all_parts p xs ys h = and_parts (list_all p xs) (list_all p ys) (sym (list_all-append p xs ys) ∙ h)

pub all_nth : {X : Type 0} (p : X → Bool) (xs : List X) (j : ℕ) (x : X) → list_all p xs ≡ true → slice_get xs j ≡ Some x → p x ≡ true
all_nth p [] j x h e = let z : ◌≡◌ {A = ℕ} 0 1 = cc in absurd (omega arith)
all_nth p (y ∷ ys) zero x h e = let same : x ≡ y = cc in ap p same ∙ (and_parts (p y) (list_all p ys) h).0
all_nth p (y ∷ ys) (suc j) x h e = all_nth p ys j x (and_parts (p y) (list_all p ys) h).1 e

-- whether a number is not among others
abbrev pub outside : ℕ → List ℕ → Bool
outside x ys = list_all (λ y. not (x == y)) ys

other_way : (x y : ℕ) → not (x == y) ≡ true → not (y == x) ≡ true
other_way x y h = not_from_false (y == x) (ne_eqb y x (λ e. eqb-false x y (not-true (x == y) h) (sym e)))

pub outside_nil : (ys : List ℕ) → list_all (λ y. outside y []) ys ≡ true
outside_nil [] = refl
outside_nil (y ∷ ys) = outside_nil ys

outside_cons : (x : ℕ) (xs ys : List ℕ) → outside x ys ≡ true → list_all (λ y. outside y xs) ys ≡ true → list_all (λ y. outside y (x ∷ xs)) ys ≡ true
outside_cons x xs [] h k = refl
outside_cons x xs (y ∷ ys) h k =
    let a = and_parts (not (x == y)) (outside x ys) h in
    let b = and_parts (outside y xs) (list_all (λ z. outside z xs) ys) k in
    and_from (outside y (x ∷ xs)) (list_all (λ z. outside z (x ∷ xs)) ys)
    (and_from (not (y == x)) (outside y xs) (other_way x y a.0) b.0) (outside_cons x xs ys a.1 b.1)

-- the two parts of a list without repeats have none, and have no number in common
pub distinct_left : (xs ys : List ℕ) → is_distinct (xs ++ ys) ≡ true → is_distinct xs ≡ true
distinct_left [] ys h = refl
distinct_left (x ∷ xs) ys h =
    let a = and_parts (outside x (xs ++ ys)) (is_distinct (xs ++ ys)) h in
    and_from (outside x xs) (is_distinct xs) (all_parts (λ y. not (x == y)) xs ys a.0).0 (distinct_left xs ys a.1)

pub distinct_right : (xs ys : List ℕ) → is_distinct (xs ++ ys) ≡ true → is_distinct ys ≡ true
distinct_right [] ys h = h
distinct_right (x ∷ xs) ys h = distinct_right xs ys (and_parts (outside x (xs ++ ys)) (is_distinct (xs ++ ys)) h).1

pub left_outside : (xs ys : List ℕ) → is_distinct (xs ++ ys) ≡ true → list_all (λ x. outside x ys) xs ≡ true
left_outside [] ys h = refl
left_outside (x ∷ xs) ys h =
    let a = and_parts (outside x (xs ++ ys)) (is_distinct (xs ++ ys)) h in
    and_from (outside x ys) (list_all (λ z. outside z ys) xs) (all_parts (λ y. not (x == y)) xs ys a.0).1 (left_outside xs ys a.1)

pub right_outside : (xs ys : List ℕ) → is_distinct (xs ++ ys) ≡ true → list_all (λ y. outside y xs) ys ≡ true
right_outside [] ys h = outside_nil ys
right_outside (x ∷ xs) ys h =
    let a = and_parts (outside x (xs ++ ys)) (is_distinct (xs ++ ys)) h in
    outside_cons x xs ys (all_parts (λ y. not (x == y)) xs ys a.0).1 (right_outside xs ys a.1)
