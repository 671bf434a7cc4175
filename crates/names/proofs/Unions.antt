-- Disjoint unions: when two environments are apart, and that the order of stacking does not matter then.
use Rattle.std.proofs.Common.{◌≡◌, ℕ, true, cond, ◌↔◌, List, [], ◌∷◌, is_some, Some, None, Option, sym, refl, ap, ◌∙◌, arith}
use Rattle.std.specs.List.{find}
use Rattle.std.specs.Option.{option_or}
use Rattle.std.proofs.lemmas.Bool.Decides.{nat_tests}
use Rattle.names.specs.Env.{Env, lookup, stacked, Apart, first_in}

or_other_comm : {D : Type 0} (o p : Option D) → (is_some o ≡ true → is_some p ≡ true → ⊥) → option_or o p ≡ option_or p o
or_other_comm None None h = refl
or_other_comm None (Some y) h = refl
or_other_comm (Some x) None h = refl
or_other_comm (Some x) (Some y) h = absurd (h refl refl)

-- of environments that are apart, either may stand above the other
pub stacked_comm : {D : Type 0} (e f : Env D) (x : ℕ) → Apart e f → stacked e f x ≡ stacked f e x
stacked_comm e f x h = or_other_comm (e x) (f x) (h x)

module _ {D E : Type 0} (symbol : D → ℕ) where
  none_shared : (xs : List D) (e : Env E) → Apart (lookup symbol xs) e → first_in symbol xs e ≡ None
  none_shared [] e h = refl
  none_shared (d ∷ ds) e h =
      let here : is_some (e (symbol d)) ≡ true → ⊥ = λ q. h (symbol d) (grind (arith, nat_tests)) q in
      let rest : Apart (lookup symbol ds) e = λ x p q. h x (grind (arith, nat_tests)) q in
      let r = none_shared ds e rest in
      grind (arith, nat_tests, here)

  shared_none : (xs : List D) (e : Env E) → first_in symbol xs e ≡ None → Apart (lookup symbol xs) e
  shared_none [] e h x p q = grind arith
  shared_none (d ∷ ds) e h x p q =
      let there : is_some (lookup symbol ds x) ≡ true → ⊥ = λ t. shared_none ds e (grind (arith, nat_tests)) x t q in
      grind (arith, nat_tests, there)

  -- two environments are apart exactly where no entry of the one has a name of the other
  pub apart_none : (xs : List D) (e : Env E) → Apart (lookup symbol xs) e ↔ (first_in symbol xs e ≡ None)
  apart_none xs e = (none_shared xs e, shared_none xs e)

  -- so an answer that is this entry tells whether they are apart
  pub apart_by : (xs : List D) (e : Env E) (r : Option D) → r ≡ first_in symbol xs e → Apart (lookup symbol xs) e ↔ (r ≡ None)
  apart_by xs e r h = (λ a. h ∙ (apart_none xs e).0 a, λ n. (apart_none xs e).1 (sym h ∙ n))

  -- the first entry that an environment defines is found by a test of each
  pub first_in_find : (xs : List D) (e : Env E) → find (λ d. is_some (e (symbol d))) xs ≡ first_in symbol xs e
  first_in_find [] e = refl
  first_in_find (d ∷ ds) e = ap (cond (is_some (e (symbol d))) (Some d)) (first_in_find ds e)
