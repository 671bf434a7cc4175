-- What a type name stands for, from what was found under it.
use Rattle.std.proofs.Common.{◌≡◌, ℕ, List, Some, None, Option, sym, refl, ap, ◌∙◌, subst}
use Rattle.std.specs.Option.{option_or}
use Rattle.values.specs.declared.types.«Type».{«Type» as Ty}
use Rattle.values.specs.declared.types.«Type».TheVariants.{Class as ClassType}
use Rattle.std.proofs.ByRecursion.{all-has}
use Rattle.names.specs.Env.{lookup}
use Rattle.names.proofs.Stacking.{lookup_found}
use Rattle.types.specs.Classes.{Ordered}
use Rattle.types.specs.Subtypes.{Known}
use Rattle.library.proofs.Answered.{number_known}
use Rattle.types.specs.declared.class.Class.{Class}
use Rattle.library.specs.declared.lookup.TypeName.{TypeName}
use Rattle.library.specs.Environments.{basic, basic_type, class_type, type_env}

module _ (cs : List Class) (x : ℕ) where
  -- a type that a name stands for is none of an unknown class
  pub type_known : Ordered cs → (t : Ty) → type_env cs x ≡ Some t → Known cs t
  unfolding type_env
  type_known o t e = by_basic (lookup (λ b. b.name) basic x) refl
    where
      by_class : (c : Option Class) → lookup (λ c. c.name) cs x ≡ c → class_type c ≡ Some t → Known cs t
      by_class None f g = absurd cc
      by_class (Some c) f g = let i : ClassType c.number ≡ t = cc in subst (Known cs) i (number_known cs x c o f)

      by_basic : (b : Option TypeName) → lookup (λ b. b.name) basic x ≡ b → Known cs t
      by_basic None f = by_class (lookup (λ c. c.name) cs x) refl (sym (ap (λ b. option_or (basic_type b) (class_type (lookup (λ c. c.name) cs x))) f) ∙ e)
      by_basic (Some b) f = let i : Some b.of ≡ Some t = sym (ap (λ b. option_or (basic_type b) (class_type (lookup (λ c. c.name) cs x))) f) ∙ e in let j : b.of ≡ t = cc in
          subst (Known cs) j (all-has (λ b. Known cs b.of) basic b (tt, (tt, (tt, (tt, tt)))) (lookup_found (λ b. b.name) basic x b f).1)
