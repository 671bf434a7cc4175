-- Pass two: the fields of the classes and the signatures of their methods.
use Rattle.std.specs.Prelude.{◌≡◌, ℕ, suc, ◌+◌, ◌<◌, Bool, true, cond, List, [], ◌∷◌, ◌++◌, length, Some, None, Option, ◌≢◌, slice_set}
use Rattle.table.specs.Shape.{end_of}
use Rattle.table.specs.View.{view}
use Rattle.table.specs.declared.kinds.Node.{Node}
use Rattle.table.specs.declared.view.View.TheVariants.{DeclClass, DeclField, DeclMethod, DeclParam, List as Elements}
use Rattle.values.specs.declared.types.«Type».{«Type» as Ty}
use Rattle.values.specs.declared.types.«Type».TheVariants.{Void}
use Rattle.names.specs.Env.{Env, lookup, Apart, first_in}
use Rattle.types.specs.declared.class.Class.{Class as OneClass}
use Rattle.types.specs.Classes.{Extends}
use Rattle.types.specs.Subtypes.{Subtype}
use Rattle.parts.specs.Parts.{symbol_at}
use Rattle.library.specs.declared.definition.Visibility.{Visibility}
use Rattle.library.specs.declared.definition.Visibility.TheVariants.{Public, Protected}
use Rattle.library.specs.declared.definition.Signature.{Signature}
use Rattle.library.specs.declared.definition.Nature.{Nature}
use Rattle.library.specs.declared.definition.Nature.TheVariants.{Param as ParamNature, Var, Method as MethodNature, Field as FieldNature}
use Rattle.library.specs.declared.member.Member.{Member}
use Rattle.library.specs.Signatures.{signature}
use Rattle.library.specs.Natures.{is_field}
use Rattle.library.specs.Members.{called, layout_at}
use Rattle.library.specs.Contents.{Contents}
use Rattle.library.specs.Environments.{type_env, environment}
use Rattle.grammar.specs.declared.fault.Rule.TheVariants.{TypeName, Members, Fields, Field, Methods, Method, Param}
use Rattle.grammar.specs.declared.fault.Pass.TheVariants.{Two}
use Rattle.grammar.specs.declared.fault.RuleFault.{RuleFault}
use Rattle.grammar.specs.declared.fault.MemberFault.{MemberFault}
use Rattle.grammar.specs.declared.fault.BatchFault.{BatchFault}
use Rattle.grammar.specs.Faults.{broken, in_member, in_class}
use Rattle.grammar.specs.Members.{MembersAre, MembersBreak}

-- What the declarations of a class are checked against.
pub record Scope : Type 0 where
  -- the classes there are
  pub classes : List OneClass
  -- the environment of the super-class, and the cells of its records
  pub inherited : Env Member
  pub cells : ℕ
  -- the number of the class
  pub number : ℕ
  -- how many nodes were kept before the batch
  pub kept : ℕ

-- the scope of the class k under the class j
abbrev pub scope : Contents → ℕ → ℕ → ℕ → Scope
scope w k j n = record { classes = w.classes; inherited = environment w j; cells = (layout_at w.layouts j).cells; number = k; kept = n }

-- Rule 0.2: the name at p stands for the type t.
abbrev pub Names : List Node → List OneClass → ℕ → Ty → Type 0
Names T cs p t = type_env cs (symbol_at T p) ≡ Some t

-- a field may hide what is inherited under its name, if that is a field
abbrev pub Hides : Option Member → Type 0
Hides None = Unit {0}
Hides (Some m) = is_field m.definition.nature ≡ true

abbrev pub visible : Bool → Visibility
visible b = cond b Protected Public

-- Rule 2.5: a field is not void, and hides at most a field. It takes the cell behind those of i fields before it.
pub data FieldIs (T : List Node) (x : Scope) (i : ℕ) : ℕ → Member → Type 0 where
  field : {p a b c : ℕ} {v : Bool} {t : Ty} → view T p ≡ DeclField v a b c →
      Names T x.classes a t → (t ≢ Void) → Hides (x.inherited (symbol_at T b)) →
      FieldIs T x i p (record { name = symbol_at T b; definition = record { nature = FieldNature (visible v) x.number (x.cells + i); of = t }; node = Some (x.kept + p) })

-- Rule 2.4: the fields from q to e, behind the fields F: no two have one name.
abbrev pub FieldsAre : List Node → Scope → ℕ → List Member → ℕ → List Member → Type 0
FieldsAre T x = MembersAre T (FieldIs T x)

-- Rule 2.9: a parameter is not void.
pub data ParamIs (T : List Node) (cs : List OneClass) : ℕ → Ty → Type 0 where
  param : {p a b : ℕ} {t : Ty} → view T p ≡ DeclParam a b → Names T cs a t → (t ≢ Void) → ParamIs T cs p t

-- Rule 2.8: the types of the parameters from q to e, behind the types ts.
pub data ParamsAre (T : List Node) (cs : List OneClass) (e : ℕ) : List Ty → ℕ → List Ty → Type 0 where
  none : {ts : List Ty} → ParamsAre T cs e ts e ts
  more : {ts us : List Ty} {q : ℕ} {t : Ty} → q < e → ParamIs T cs q t → ParamsAre T cs e (ts ++ t ∷ []) (end_of T q) us → ParamsAre T cs e ts q us

-- a method with the signature s and the result t may override one with the signature r and the result u:
-- the parameters are the same, and the result is a subtype
pub record Overrides (cs : List OneClass) (s : Signature) (t : Ty) (r : Signature) (u : Ty) : Type 0 where
  pub params : s ≡ r
  pub result : Subtype cs t u

abbrev pub OverridesNature : List OneClass → Signature → Ty → Nature → Ty → Type 0
OverridesNature cs s t ParamNature u = ⊥
OverridesNature cs s t Var u = ⊥
OverridesNature cs s t (MethodNature r) u = Overrides cs s t r u
OverridesNature cs s t (FieldNature v c i) u = ⊥

-- what is inherited under the name of a method, if anything is, is a method that it may override
abbrev pub MayOverride : List OneClass → Signature → Ty → Option Member → Type 0
MayOverride cs s t None = Unit {0}
MayOverride cs s t (Some m) = OverridesNature cs s t m.definition.nature m.definition.of

-- Rule 2.7: the result, the parameters, and what may be overridden.
pub data MethodIs (T : List Node) (x : Scope) : ℕ → Member → Type 0 where
  method : {p a b c d q e : ℕ} {t : Ty} {ts : List Ty} → view T p ≡ DeclMethod a b c d → Names T x.classes a t →
      view T c ≡ Elements q e → ParamsAre T x.classes e [] q ts → MayOverride x.classes (signature ts) t (x.inherited (symbol_at T b)) →
      MethodIs T x p (record { name = symbol_at T b; definition = record { nature = MethodNature (signature ts); of = t }; node = Some (x.kept + p) })

-- Rule 2.6: the methods from q to e, behind the methods M: no two have one name.
abbrev pub MethodsAre : List Node → Scope → ℕ → List Member → ℕ → List Member → Type 0
MethodsAre T x = MembersAre T (λ i. MethodIs T x)

-- the class k has the fields F and the methods M
abbrev pub with_members : Contents → ℕ → ℕ → List Member → List Member → Contents
with_members w k j F M =
    record {
      classes = w.classes;
      layouts = slice_set w.layouts k (record { first = length w.members; end = length (w.members ++ F ++ M); cells = (layout_at w.layouts j).cells + length F });
      members = w.members ++ F ++ M;
      nodes = w.nodes;
      attributes = w.attributes;
    }

-- Rule 2.3: no method has the name of a field. What the class declares stands on the environment of its super-class.
pub data Completes (T : List Node) (n : ℕ) (w : Contents) (k : ℕ) : ℕ → Contents → Type 0 where
  class : {p a b c d j q e r f : ℕ} {F M : List Member} → view T p ≡ DeclClass a b c d → Extends w.classes k j →
      view T c ≡ Elements q e → FieldsAre T (scope w k j n) e [] q F →
      view T d ≡ Elements r f → MethodsAre T (scope w k j n) f [] r M →
      Apart (lookup called M) (lookup called F) →
      Completes T n w k p (with_members w k j F M)

-- Rule 2.2: the classes from q to e, whose numbers begin at k, each with those before it completed.
pub data CompletesAll (T : List Node) (n e : ℕ) : Contents → ℕ → ℕ → Contents → Type 0 where
  none : {w : Contents} {k : ℕ} → CompletesAll T n e w k e w
  more : {w v u : Contents} {k q : ℕ} → q < e → Completes T n w k q v → CompletesAll T n e v (suc k) (end_of T q) u → CompletesAll T n e w k q u

-- How rule 2.5 is broken first.
pub data BreaksField (T : List Node) (x : Scope) : ℕ → RuleFault → Type 0 where
  no_type : {p a b c : ℕ} {v : Bool} → view T p ≡ DeclField v a b c → type_env x.classes (symbol_at T a) ≡ None → BreaksField T x p (broken TypeName a)
  void : {p a b c : ℕ} {v : Bool} → view T p ≡ DeclField v a b c → Names T x.classes a Void → BreaksField T x p (broken Field p)
  hides : {p a b c : ℕ} {v : Bool} {t : Ty} → view T p ≡ DeclField v a b c → Names T x.classes a t → (t ≢ Void) →
      (Hides (x.inherited (symbol_at T b)) → ⊥) → BreaksField T x p (broken Field p)

-- the field at q has its Identifier at b
abbrev pub FieldNamed : List Node → ℕ → ℕ → Type 0
FieldNamed T q b = (v : Bool) × (a : ℕ) × (c : ℕ) × (view T q ≡ DeclField v a b c)

-- How the fields from q to e break a rule first.
abbrev pub BreaksFields : List Node → Scope → ℕ → List Member → ℕ → MemberFault → Type 0
BreaksFields T x = MembersBreak T Fields (FieldNamed T) (FieldIs T x) (BreaksField T x)

-- How rule 2.9 is broken first.
pub data BreaksParam (T : List Node) (cs : List OneClass) : ℕ → RuleFault → Type 0 where
  no_type : {p a b : ℕ} → view T p ≡ DeclParam a b → type_env cs (symbol_at T a) ≡ None → BreaksParam T cs p (broken TypeName a)
  void : {p a b : ℕ} → view T p ≡ DeclParam a b → Names T cs a Void → BreaksParam T cs p (broken Param p)

pub data BreaksParams (T : List Node) (cs : List OneClass) (e : ℕ) : ℕ → RuleFault → Type 0 where
  here : {q : ℕ} {f : RuleFault} → q < e → BreaksParam T cs q f → BreaksParams T cs e q f
  later : {q : ℕ} {t : Ty} {f : RuleFault} → q < e → ParamIs T cs q t → BreaksParams T cs e (end_of T q) f → BreaksParams T cs e q f

-- How rule 2.7 is broken first.
pub data BreaksMethod (T : List Node) (x : Scope) : ℕ → RuleFault → Type 0 where
  no_type : {p a b c d : ℕ} → view T p ≡ DeclMethod a b c d → type_env x.classes (symbol_at T a) ≡ None → BreaksMethod T x p (broken TypeName a)
  params : {p a b c d q e : ℕ} {t : Ty} {f : RuleFault} → view T p ≡ DeclMethod a b c d → Names T x.classes a t →
      view T c ≡ Elements q e → BreaksParams T x.classes e q f → BreaksMethod T x p f
  overrides : {p a b c d q e : ℕ} {t : Ty} {ts : List Ty} → view T p ≡ DeclMethod a b c d → Names T x.classes a t →
      view T c ≡ Elements q e → ParamsAre T x.classes e [] q ts → (MayOverride x.classes (signature ts) t (x.inherited (symbol_at T b)) → ⊥) →
      BreaksMethod T x p (broken Method p)

-- the method at q has its Identifier at b
abbrev pub MethodNamed : List Node → ℕ → ℕ → Type 0
MethodNamed T q b = (a : ℕ) × (c : ℕ) × (d : ℕ) × (view T q ≡ DeclMethod a b c d)

-- How the methods from q to e break a rule first.
abbrev pub BreaksMethods : List Node → Scope → ℕ → List Member → ℕ → MemberFault → Type 0
BreaksMethods T x = MembersBreak T Methods (MethodNamed T) (λ i. MethodIs T x) (BreaksMethod T x)

-- A method m with the name of a field is reported at its own Identifier.
pub data SharedName (T : List Node) (n : ℕ) (m : Member) : MemberFault → Type 0 where
  shared_name : {a b c d : ℕ} (s : ℕ) → m.node ≡ Some (n + s) → view T s ≡ DeclMethod a b c d → SharedName T n m (in_member m.name (broken Members b))

-- How the declarations of a class break a rule first. Of several methods with the names of fields, the first counts.
pub data BreaksMembers (T : List Node) (n : ℕ) (w : Contents) (k : ℕ) : ℕ → MemberFault → Type 0 where
  fields : {p a b c d j q e : ℕ} {f : MemberFault} → view T p ≡ DeclClass a b c d → Extends w.classes k j →
      view T c ≡ Elements q e → BreaksFields T (scope w k j n) e [] q f → BreaksMembers T n w k p f
  methods : {p a b c d j q e r g : ℕ} {F : List Member} {f : MemberFault} → view T p ≡ DeclClass a b c d → Extends w.classes k j →
      view T c ≡ Elements q e → FieldsAre T (scope w k j n) e [] q F →
      view T d ≡ Elements r g → BreaksMethods T (scope w k j n) g [] r f → BreaksMembers T n w k p f
  shared : {p a b c d j q e r g : ℕ} {F M : List Member} {m : Member} {f : MemberFault} → view T p ≡ DeclClass a b c d → Extends w.classes k j →
      view T c ≡ Elements q e → FieldsAre T (scope w k j n) e [] q F →
      view T d ≡ Elements r g → MethodsAre T (scope w k j n) g [] r M →
      first_in called M (lookup called F) ≡ Some m → SharedName T n m f → BreaksMembers T n w k p f

-- How pass two is broken first, from q to e. A class is around its members.
pub data BreaksTwo (T : List Node) (n e : ℕ) : Contents → ℕ → ℕ → BatchFault → Type 0 where
  here : {w : Contents} {k q a b c d : ℕ} {f : MemberFault} → q < e → view T q ≡ DeclClass a b c d → BreaksMembers T n w k q f →
      BreaksTwo T n e w k q (in_class Two (symbol_at T a) f)
  later : {w v : Contents} {k q : ℕ} {f : BatchFault} → q < e → Completes T n w k q v → BreaksTwo T n e v (suc k) (end_of T q) f → BreaksTwo T n e w k q f
