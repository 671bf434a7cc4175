-- The relations on types.
use Rattle.std.specs.Prelude.{◌≡◌, ℕ, ◌<◌, ◌⊎◌, ◌↔◌, List, ◌++◌, length}
use Rattle.values.specs.declared.types.«Type».{«Type» as Ty}
use Rattle.values.specs.declared.types.«Type».TheVariants.{Void, Boolean, Float, Int, String, Null, Class as ClassType}
use Rattle.types.specs.declared.class.Class.{Class}
use Rattle.types.specs.Classes.{Extends}

-- The first type is the second or lies under it.
pub data Subtype (cs : List Class) : Ty → Ty → Type 0 where
  same : {t : Ty} → Subtype cs t t
  object : {k : ℕ} → k < length cs → Subtype cs (ClassType k) (ClassType 0)
  extends : {k j : ℕ} → Extends cs k j → Subtype cs (ClassType k) (ClassType j)
  climb : {k j : ℕ} {t : Ty} → Extends cs k j → Subtype cs (ClassType j) t → Subtype cs (ClassType k) t
  null : {k : ℕ} → k < length cs → Subtype cs Null (ClassType k)

-- Where t is declared, a value of type u may be assigned.
pub data Assignable (cs : List Class) : Ty → Ty → Type 0 where
  widened : Assignable cs Float Int
  under : {t u : Ty} → Subtype cs u t → Assignable cs t u

-- A value of type t may be converted to u.
pub record Castable (cs : List Class) (t u : Ty) : Type 0 where
  pub value : t ≡ Void → ⊥
  pub either : Assignable cs t u ⊎ Assignable cs u t

-- A type that is no class, or the type of one of the classes.
abbrev pub Known : List Class → Ty → Type 0
Known cs Void = Unit {0}
Known cs Boolean = Unit {0}
Known cs Float = Unit {0}
Known cs Int = Unit {0}
Known cs String = Unit {0}
Known cs Null = Unit {0}
Known cs (ClassType k) = k < length cs

-- What lies under a type that lies under a third lies under the third.
abbrev pub Transitive : List Class → Type 0
Transitive cs = (t u v : Ty) → Subtype cs t u → Subtype cs u v → Subtype cs t v

-- Two classes that lie under one another are one.
abbrev pub Antisymmetric : List Class → Type 0
Antisymmetric cs = (k j : ℕ) → Subtype cs (ClassType k) (ClassType j) → Subtype cs (ClassType j) (ClassType k) → k ≡ j

-- What holds of t and u among the classes cs holds with the classes ds added, and the other way round.
pub record Unchanged (cs ds : List Class) (t u : Ty) : Type 0 where
  pub subtype : Subtype cs t u ↔ Subtype (cs ++ ds) t u
  pub assignable : Assignable cs t u ↔ Assignable (cs ++ ds) t u
  pub castable : Castable cs t u ↔ Castable (cs ++ ds) t u

-- No answer changes when classes are added.
abbrev pub Stays : List Class → Type 0
Stays cs = (ds : List Class) (t u : Ty) → Known cs t → Known cs u → Unchanged cs ds t u

-- The laws of these relations.
pub record Laws (cs : List Class) : Type 0 where
  pub transitive : Transitive cs
  pub antisymmetric : Antisymmetric cs
  pub stays : Stays cs
