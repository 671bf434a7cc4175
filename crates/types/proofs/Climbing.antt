-- What lies above a type: its number, that it is known, and what lies above that.
use Rattle.std.proofs.Common.{◌≡◌, ℕ, ◌<◌, ◌≤◌, List, length, None, sym, refl, ap, subst, inl, inr, arith}
use Rattle.std.proofs.lemmas.List.{get_or_past}
use Rattle.std.proofs.lemmas.Bool.{cases_lt}
use Rattle.values.specs.declared.types.«Type».{«Type» as Ty}
use Rattle.values.specs.declared.types.«Type».TheVariants.{Float, Int, Null, Class as ClassType}
use Rattle.types.specs.declared.class.Class.{Class}
use Rattle.types.specs.Classes.{class_at, Extends, Ordered}
use Rattle.types.specs.Subtypes.{Subtype, Assignable, Known, Transitive, Antisymmetric}
use Rattle.types.specs.Subtypes.Subtype.{same, object, extends, climb, null}
use Rattle.types.specs.Subtypes.Assignable.{widened, under}

module _ (cs : List Class) where
  -- a class past the list has no super-class
  pub extends_known : (k j : ℕ) → Extends cs k j → k < length cs
  extends_known k j e =
      elim (cases_lt k (length cs)) [
        | inl l ↦ l
        | inr g ↦ absurd (let n : (class_at cs k).parent ≡ None = ap (λ c. c.parent) (get_or_past cs k _ g) in cc)
      ]

  -- a class has one super-class
  one_parent : (k i j : ℕ) → Extends cs k i → Extends cs k j → i ≡ j
  one_parent k i j p q = cc

  -- only classes and null lie under another type, and that is a class
  pub under_plain : {t u : Ty} → ((k j : ℕ) → t ≡ ClassType k → u ≡ ClassType j → ⊥) → ((j : ℕ) → t ≡ Null → u ≡ ClassType j → ⊥) → Subtype cs t u → t ≡ u
  under_plain n m same = refl
  under_plain n m (object {k} h) = absurd (n k 0 refl refl)
  under_plain n m (extends {k} {j} e) = absurd (n k j refl refl)
  under_plain n m (climb {k} {j} e s) = absurd (n k j refl (sym (under_plain (λ _ i _ q. n k i refl q) (λ i p q. n k i refl q) s)))
  under_plain n m (null {k} h) = absurd (m k refl refl)

  -- null lies only under classes of the list
  pub null_known : {k : ℕ} → Subtype cs Null (ClassType k) → k < length cs
  null_known (null h) = h

  module _ (o : Ordered cs) where
    -- a class has no lower number than one under which it lies
    pub no_lower : {k j : ℕ} → Subtype cs (ClassType k) (ClassType j) → j ≤ k
    no_lower same = omega arith
    no_lower (object h) = omega arith
    no_lower (extends {k} {j} e) = let l = o.lower k j e in omega arith
    no_lower (climb {k} {j} e s) = let l = o.lower k j e in let m = no_lower s in omega arith

    -- what lies above a known type is known
    pub known_above : {t u : Ty} → Known cs t → Subtype cs t u → Known cs u
    known_above h same = h
    known_above h (object l) = o.some
    known_above h (extends {k} {j} e) = let l = o.lower k j e in omega arith
    known_above h (climb {k} {j} e s) = known_above (let l = o.lower k j e in omega arith) s
    known_above h (null l) = l

    -- what lies above Object lies above every class
    object_under : {k : ℕ} {t : Ty} → k < length cs → Subtype cs (ClassType 0) t → Subtype cs (ClassType k) t
    object_under h same = object h
    object_under h (object l) = object h
    object_under h (extends {j = j} e) = absurd (let l = o.lower 0 j e in omega arith)
    object_under h (climb {j = j} e s) = absurd (let l = o.lower 0 j e in omega arith)

    -- what lies above a class of the list lies above null
    null_under : {k : ℕ} {t : Ty} → k < length cs → Subtype cs (ClassType k) t → Subtype cs Null t
    null_under h same = null h
    null_under h (object l) = null o.some
    null_under h (extends {k} {j} e) = null (let l = o.lower k j e in omega arith)
    null_under h (climb {k} {j} e s) = null_under (let l = o.lower k j e in omega arith) s

    pub transitive : Transitive cs
    transitive t u v same s = s
    transitive t u v (object h) s = object_under h s
    transitive t u v (extends e) s = climb e s
    transitive t u v (climb e r) s = climb e (transitive _ u v r s)
    transitive t u v (null h) s = null_under h s

    pub antisymmetric : Antisymmetric cs
    antisymmetric k j a b = let l = no_lower a in let m = no_lower b in omega arith

    -- what lies strictly above a class lies above its super-class
    pub parent_under : (k i j : ℕ) → Extends cs k i → j < k → Subtype cs (ClassType k) (ClassType j) → Subtype cs (ClassType i) (ClassType j)
    parent_under k i j e l same = absurd (omega arith)
    parent_under k i j e l (object h) = object (let m = o.lower k i e in omega arith)
    parent_under k i j e l (extends f) = subst (λ n. Subtype cs (ClassType i) (ClassType n)) (one_parent k i j e f) same
    parent_under k i j e l (climb {j = n} f s) = subst (λ m. Subtype cs (ClassType m) (ClassType j)) (one_parent k n i f e) s

    -- and nothing does if there is none
    pub none_above : (k j : ℕ) → (class_at cs k).parent ≡ None → j < k → Subtype cs (ClassType k) (ClassType j) → ⊥
    none_above k j n l same = omega arith
    none_above k j n l (object h) = let z = o.rooted k h n in omega arith
    none_above k j n l (extends e) = cc
    none_above k j n l (climb e s) = cc

-- but for an int where a float is declared, what may be assigned lies under what is declared
pub assigned_under : {cs : List Class} {t u : Ty} → (t ≡ Float → u ≡ Int → ⊥) → Assignable cs t u → Subtype cs u t
assigned_under n widened = absurd (n refl refl)
assigned_under n (under s) = s
