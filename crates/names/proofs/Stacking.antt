-- Look-up: over lists put one behind the other, and what it finds.
use Rattle.std.proofs.Common.{◌≡◌, ℕ, true, false, cond, eqb, ◌==◌, ◌↔◌, List, [], ◌∷◌, ◌++◌, Some, None, refl, ap, ⊎_elim, arith}
use Rattle.std.specs.Option.{option_or}
use Rattle.std.specs.List.{ContainsAt, AllByRecursion, find}
use Rattle.std.proofs.ByRecursion.{has_append_right}
use Rattle.std.proofs.lemmas.Bool.Decides.{nat_tests, eqb_tells}
use Rattle.names.specs.Env.{lookup, stacked}

module _ {D : Type 0} (symbol : D → ℕ) where
  -- to stack is to append
  pub lookup_append : (xs ys : List D) (x : ℕ) → lookup symbol (xs ++ ys) x ≡ stacked (lookup symbol xs) (lookup symbol ys) x
  lookup_append [] ys x = refl
  lookup_append (d ∷ ds) ys x =
      elim (eqb (symbol d) x) as (λ b. cond b (Some d) (lookup symbol (ds ++ ys) x) ≡ option_or (cond b (Some d) (lookup symbol ds x)) (lookup symbol ys x))
      [ true ↦ refl | false ↦ lookup_append ds ys x ]

  -- what is found is an entry with the name that was asked for
  pub lookup_found : (xs : List D) (x : ℕ) (d : D) → lookup symbol xs x ≡ Some d → (symbol d ≡ x) × ContainsAt xs d
  lookup_found [] x d h = absurd (grind arith)
  lookup_found (y ∷ ys) x d h =
      ⊎_elim
      (λ t. let e : y ≡ d = grind (arith, t.0) in (grind (arith, ap symbol e, t.1), (0, omega arith, λ _. e)))
      (λ t. let r = lookup_found ys x d (grind (arith, t.0)) in (r.0, has_append_right (y ∷ []) ys d r.1))
      (eqb_tells (symbol y) x)

  -- nothing is found exactly where no entry has the name
  pub lookup_absent : (xs : List D) (x : ℕ) → (lookup symbol xs x ≡ None) ↔ AllByRecursion (λ d. symbol d ≡ x → ⊥) xs
  lookup_absent [] x = (λ _. tt, λ _. refl)
  lookup_absent (d ∷ ds) x =
      (λ h. (grind (arith, nat_tests), (lookup_absent ds x).0 (grind (arith, nat_tests))), λ h. let r = (lookup_absent ds x).1 h.1 in grind (arith, nat_tests, h.0))

  -- to look up is to find the first entry with the name
  pub lookup_find : (xs : List D) (x : ℕ) → find (λ d. symbol d == x) xs ≡ lookup symbol xs x
  lookup_find [] x = refl
  lookup_find (d ∷ ds) x = ap (cond (symbol d == x) (Some d)) (lookup_find ds x)
