-- The environment of a class, step by step.
use Rattle.std.proofs.Common.{◌≡◌, ℕ, zero, suc, ◌<◌, Some, None, Option, sym, refl, ap, ◌∙◌, arith}
use Rattle.std.specs.Option.{option_or}
use Rattle.names.specs.Env.{lookup, stacked}
use Rattle.types.specs.Classes.{class_at, Extends}
use Rattle.library.specs.declared.member.Member.{Member}
use Rattle.library.specs.Members.{called, own}
use Rattle.library.specs.Contents.{Contents}
use Rattle.library.specs.Environments.{above, climbing, environment}

module _ (w : Contents) (o : (k j : ℕ) → Extends w.classes k j → j < k) where
  abbrev climb : ℕ → ℕ → ℕ → Option Member
  climb = climbing w.classes w.layouts w.members

  above_same : (f g : ℕ → ℕ → Option Member) (p : Option ℕ) (x : ℕ) → ((j : ℕ) → p ≡ Some j → f j x ≡ g j x) → above f p x ≡ above g p x
  above_same f g None x h = refl
  above_same f g (Some j) x h = h j refl

  -- how far the climb may go does not matter, if it is far enough
  climbing_same : (n m k x : ℕ) → k < n → k < m → climb n k x ≡ climb m k x
  climbing_same zero m k x h l = absurd (omega arith)
  climbing_same (suc n) zero k x h l = absurd (omega arith)
  climbing_same (suc n) (suc m) k x h l =
      ap (option_or (lookup called (own w.layouts w.members k) x))
      (above_same (climb n) (climb m) (class_at w.classes k).parent x (λ j e. let a = o k j e in climbing_same n m j x (omega arith) (omega arith)))

  -- a class's own members stand on those of its super-class
  pub environment_is : (k x : ℕ) → environment w k x ≡ stacked (lookup called (own w.layouts w.members k)) (above (environment w) (class_at w.classes k).parent) x
  unfolding environment
  environment_is k x =
      ap (option_or (lookup called (own w.layouts w.members k) x))
      (above_same (climb k) (environment w) (class_at w.classes k).parent x (λ j e. let a = o k j e in climbing_same k (suc j) j x a (omega arith)))

  pub environment_own : (k x : ℕ) (m : Member) → Some m ≡ lookup called (own w.layouts w.members k) x → environment w k x ≡ Some m
  environment_own k x m e = environment_is k x ∙ ap (λ r. option_or r (above (environment w) (class_at w.classes k).parent x)) (sym e)

  pub environment_up : (k x : ℕ) (o : Option ℕ) → None ≡ lookup called (own w.layouts w.members k) x → (class_at w.classes k).parent ≡ o → environment w k x ≡ above (environment w) o x
  environment_up k x o e p =
      environment_is k x ∙ ap (λ r. option_or r (above (environment w) (class_at w.classes k).parent x)) (sym e) ∙ ap (λ o. above (environment w) o x) p
