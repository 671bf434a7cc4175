-- Types that are those of a class and types that are not, and so with definitions of methods, fields and variables.
use Rattle.std.proofs.Common.{◌≡◌, ℕ, Bool, true, false, Decides, sym, refl, ◌∙◌, subst}
use Rattle.values.specs.declared.types.«Type».{«Type» as Ty}
use Rattle.values.specs.declared.types.«Type».TheVariants.{Void, Boolean, Float, Int, String, Null, Class as ClassType}
use Rattle.typing.specs.Expressions.{IsClass, IsMethod, IsField, Variable}
use Rattle.library.specs.declared.definition.Signature.{Signature}
use Rattle.library.specs.Natures.{is_field, is_variable}
use Rattle.library.specs.declared.definition.Nature.{Nature}
use Rattle.library.specs.declared.definition.Nature.TheVariants.{Param, Var, Method, Field}

pub a_class : (t : Ty) (k : ℕ) → t ≡ ClassType k → IsClass t
a_class t k e = subst IsClass (sym e) tt

pub no_class : (t : Ty) → ((k : ℕ) → t ≡ ClassType k → ⊥) → IsClass t → ⊥
no_class Void h i = i
no_class Boolean h i = i
no_class Float h i = i
no_class Int h i = i
no_class String h i = i
no_class Null h i = i
no_class (ClassType k) h i = h k refl

pub no_method : (n : Nature) → ((s : Signature) → n ≡ Method s → ⊥) → IsMethod n → ⊥
no_method Param h i = i
no_method Var h i = i
no_method (Method s) h i = h s refl
no_method (Field v c k) h i = i

field_decides : (n : Nature) → Decides (is_field n) (IsField n)
field_decides Param = (λ e. cc, λ x. absurd x)
field_decides Var = (λ e. cc, λ x. absurd x)
field_decides (Method s) = (λ e. cc, λ x. absurd x)
field_decides (Field v c k) = (λ e. tt, λ x. refl)

variable_decides : (n : Nature) → Decides (is_variable n) (Variable n)
variable_decides Param = (λ e. tt, λ x. refl)
variable_decides Var = (λ e. tt, λ x. refl)
variable_decides (Method s) = (λ e. cc, λ x. absurd x)
variable_decides (Field v c k) = (λ e. tt, λ x. refl)

-- what the answer b of a test says
module _ (n : Nature) {b : Bool} where
  pub a_field : b ≡ is_field n → b ≡ true → IsField n
  a_field e t = (field_decides n).0 (sym e ∙ t)

  pub no_field : b ≡ is_field n → b ≡ false → IsField n → ⊥
  no_field e t i = let d : is_field n ≡ true = (field_decides n).1 i in cc

  pub a_variable : b ≡ is_variable n → b ≡ true → Variable n
  a_variable e t = (variable_decides n).0 (sym e ∙ t)

  pub no_variable : b ≡ is_variable n → b ≡ false → Variable n → ⊥
  no_variable e t i = let d : is_variable n ≡ true = (variable_decides n).1 i in cc
