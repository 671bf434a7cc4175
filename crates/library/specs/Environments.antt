-- The environments that a library stands for: of types, and of the members of each class.
use Rattle.std.specs.Prelude.{ℕ, zero, suc, List, [], ◌∷◌, Some, None, Option}
use Rattle.values.specs.declared.types.«Type».{«Type» as Ty}
use Rattle.values.specs.declared.types.«Type».TheVariants.{Void, Boolean, Float, Int, Class as ClassType}
use Rattle.names.specs.Env.{Env, lookup, stacked}
use Rattle.types.specs.declared.class.Class.{Class}
use Rattle.types.specs.Classes.{class_at}
use Rattle.library.specs.declared.lookup.TypeName.{TypeName}
use Rattle.library.specs.declared.member.Member.{Member}
use Rattle.library.specs.declared.member.Layout.{Layout}
use Rattle.library.specs.Members.{called, own}
use Rattle.library.specs.Contents.{Contents}

-- the names of the types that are no classes
abbrev pub basic : List TypeName
basic =
    record { name = 1; of = Void } ∷
    record { name = 2; of = Boolean } ∷
    record { name = 3; of = Float } ∷
    record { name = 4; of = Int } ∷
    []

abbrev pub basic_type : Option TypeName → Option Ty
basic_type None = None
basic_type (Some t) = Some t.of

abbrev pub class_type : Option Class → Option Ty
class_type None = None
class_type (Some c) = Some (ClassType c.number)

-- which type each name stands for
unfoldable pub type_env : List Class → Env Ty
type_env cs = stacked (λ x. basic_type (lookup (λ t. t.name) basic x)) (λ x. class_type (lookup (λ c. c.name) cs x))

abbrev pub above : (ℕ → Env Member) → Option ℕ → Env Member
above f None x = None
above f (Some j) x = f j x

-- the members of the class k: its own, stacked on those of its super-class; n is more than k, and super-classes have lower numbers
abbrev pub climbing : List Class → List Layout → List Member → ℕ → ℕ → Env Member
climbing cs ls ms zero k x = None
climbing cs ls ms (suc n) k x = stacked (lookup called (own ls ms k)) (above (climbing cs ls ms n) (class_at cs k).parent) x

unfoldable pub environment : Contents → ℕ → Env Member
environment w k = climbing w.classes w.layouts w.members (suc k) k
