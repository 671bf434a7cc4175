-- Nothing that holds of known types changes when classes are added.
use Rattle.std.proofs.Common.{◌≡◌, ℕ, ◌<◌, ◌≤◌, List, ◌++◌, length, sym, ap, ◌∙◌, inl, inr, arith}
use Rattle.std.proofs.lemmas.List.{get_or_append_left, length-append}
use Rattle.values.specs.declared.types.«Type».{«Type» as Ty}
use Rattle.values.specs.declared.types.«Type».TheVariants.{Void, Boolean, Float, Int, String, Null, Class as ClassType}
use Rattle.types.specs.declared.class.Class.{Class}
use Rattle.types.specs.Classes.{class_at, Extends, Ordered}
use Rattle.types.specs.Subtypes.{Subtype, Assignable, Castable, Known, Stays, Laws}
use Rattle.types.specs.Subtypes.Subtype.{same, object, extends, climb, null}
use Rattle.types.specs.Subtypes.Assignable.{widened, under}
use Rattle.types.proofs.Climbing.{extends_known, transitive, antisymmetric}

module _ (cs ds : List Class) where
  longer : length cs ≤ length (cs ++ ds)
  longer = simp length-append (omega arith)

  parent_kept : (k : ℕ) → k < length cs → (class_at (cs ++ ds) k).parent ≡ (class_at cs k).parent
  parent_kept k h = ap (λ c. c.parent) (get_or_append_left cs ds _ k h)

  extends_more : (k j : ℕ) → Extends cs k j → Extends (cs ++ ds) k j
  extends_more k j e = parent_kept k (extends_known cs k j e) ∙ e

  -- what lies under a type still does with more classes
  pub subtype_more : {t u : Ty} → Subtype cs t u → Subtype (cs ++ ds) t u
  subtype_more same = same
  subtype_more (object h) = object (let l = longer in omega arith)
  subtype_more (extends e) = extends (extends_more _ _ e)
  subtype_more (climb e s) = climb (extends_more _ _ e) (subtype_more s)
  subtype_more (null h) = null (let l = longer in omega arith)

  pub assignable_more : {t u : Ty} → Assignable cs t u → Assignable (cs ++ ds) t u
  assignable_more widened = widened
  assignable_more (under s) = under (subtype_more s)

  pub castable_more : {t u : Ty} → Castable cs t u → Castable (cs ++ ds) t u
  castable_more c = record { value = c.value; either = elim c.either [ inl a ↦ inl (assignable_more a) | inr a ↦ inr (assignable_more a) ] }

  pub known_more : (t : Ty) → Known cs t → Known (cs ++ ds) t
  known_more Void h = tt
  known_more Boolean h = tt
  known_more Float h = tt
  known_more Int h = tt
  known_more String h = tt
  known_more Null h = tt
  known_more (ClassType k) h = let l = longer in omega arith

  module _ (o : Ordered cs) where
    -- and no known type lies under another only with more classes
    pub subtype_before : {t u : Ty} → Known cs t → Known cs u → Subtype (cs ++ ds) t u → Subtype cs t u
    subtype_before h g same = same
    subtype_before h g (object l) = object h
    subtype_before h g (extends {k} {j} e) = extends (sym (parent_kept k h) ∙ e)
    subtype_before h g (climb {k} {j} e s) =
        let f : Extends cs k j = sym (parent_kept k h) ∙ e in
        climb f (subtype_before (let l = o.lower k j f in omega arith) g s)
    subtype_before h g (null l) = null g

    pub assignable_before : {t u : Ty} → Known cs t → Known cs u → Assignable (cs ++ ds) t u → Assignable cs t u
    assignable_before h g widened = widened
    assignable_before h g (under s) = under (subtype_before g h s)

    pub castable_before : {t u : Ty} → Known cs t → Known cs u → Castable (cs ++ ds) t u → Castable cs t u
    castable_before h g c =
        record { value = c.value; either = elim c.either [ inl a ↦ inl (assignable_before h g a) | inr a ↦ inr (assignable_before g h a) ] }

pub stays : (cs : List Class) → Ordered cs → Stays cs
stays cs o ds t u h g =
    record {
      subtype = (subtype_more cs ds, subtype_before cs ds o h g);
      assignable = (assignable_more cs ds, assignable_before cs ds o h g);
      castable = (castable_more cs ds, castable_before cs ds o h g);
    }

pub laws : (cs : List Class) → Ordered cs → Laws cs
laws cs o = record { transitive = transitive cs o; antisymmetric = antisymmetric cs o; stays = stays cs o }
