-- The environment of a class depends on the classes and on what each declares, and on no member behind these.
use Rattle.std.proofs.Common.{◌≡◌, ℕ, zero, suc, ◌-◌, List, ◌++◌, length, Some, None, Option, refl, ap, ◌∙◌, arith}
use Rattle.std.specs.Option.{option_or}
use Rattle.std.proofs.lemmas.List.{drop-append-le, take-append-le, length-drop}
use Rattle.names.specs.Env.{lookup}
use Rattle.types.specs.Classes.{class_at}
use Rattle.library.specs.declared.member.Member.{Member}
use Rattle.library.specs.declared.member.Layout.{Layout}
use Rattle.library.specs.Members.{called, layout_at, own, Placed}
use Rattle.library.specs.Contents.{Contents, more_members}
use Rattle.library.specs.Environments.{above, climbing, environment}

own_more : (ls : List Layout) (ms F : List Member) (k : ℕ) → Placed (layout_at ls k) (length ms) → own ls (ms ++ F) k ≡ own ls ms k
own_more ls ms F k p =
    let a = (layout_at ls k).first in
    let b = (layout_at ls k).end in
    let d = drop-append-le a ms F (omega (arith, p.0, p.1)) in
    rw d (take-append-le (b - a) _ F (simp length-drop (omega (arith, p.0, p.1))))

above_same : (f g : ℕ → ℕ → Option Member) (p : Option ℕ) (x : ℕ) → ((j : ℕ) → f j x ≡ g j x) → above f p x ≡ above g p x
above_same f g None x h = refl
above_same f g (Some j) x h = h j

module _ (w : Contents) (F : List Member) (placed : (k : ℕ) → Placed (layout_at w.layouts k) (length w.members)) where
  climbing_more : (n k x : ℕ) → climbing w.classes w.layouts (w.members ++ F) n k x ≡ climbing w.classes w.layouts w.members n k x
  climbing_more zero k x = refl
  climbing_more (suc n) k x =
      ap (λ ms. option_or (lookup called ms x) (above (climbing w.classes w.layouts (w.members ++ F) n) (class_at w.classes k).parent x)) (own_more w.layouts w.members F k (placed k)) ∙
      ap (option_or (lookup called (own w.layouts w.members k) x)) (above_same (climbing w.classes w.layouts (w.members ++ F) n) (climbing w.classes w.layouts w.members n) (class_at w.classes k).parent x (λ j. climbing_more n j x))

  pub environment_more : (k x : ℕ) → environment (more_members w F) k x ≡ environment w k x
  unfolding environment
  environment_more k x = climbing_more (suc k) k x
