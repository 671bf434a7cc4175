-- The fields, the parameters and the methods of a class allow one verdict.
use Rattle.std.proofs.Common.{◌≡◌, ℕ, ◌+◌, List, [], ◌∷◌, ◌++◌, length, Some, None, Ok, Err, Result, refl, arith}
use Rattle.table.specs.Shape.{end_of}
use Rattle.table.specs.declared.kinds.Node.{Node}
use Rattle.values.specs.declared.types.«Type».{«Type» as Ty}
use Rattle.values.specs.declared.types.«Type».TheVariants.{Void}
use Rattle.names.specs.Env.{lookup}
use Rattle.types.specs.declared.class.Class.{Class as OneClass}
use Rattle.parts.specs.Parts.{symbol_at}
use Rattle.library.specs.declared.definition.Nature.TheVariants.{Method as MethodNature, Field as FieldNature}
use Rattle.library.specs.declared.member.Member.{Member}
use Rattle.library.specs.Signatures.{signature}
use Rattle.library.specs.Members.{called}
use Rattle.library.specs.Environments.{type_env}
use Rattle.grammar.specs.declared.fault.Rule.{Rule}
use Rattle.grammar.specs.declared.fault.Rule.TheVariants.{TypeName, Fields, Field, Methods, Method, Param}
use Rattle.grammar.specs.declared.fault.RuleFault.{RuleFault}
use Rattle.grammar.specs.declared.fault.MemberFault.{MemberFault}
use Rattle.grammar.specs.Faults.{broken, in_member}
use Rattle.grammar.specs.PassTwo.{Scope, Names, Hides, visible, FieldIs, FieldsAre, ParamIs, ParamsAre, MayOverride, MethodIs, MethodsAre}
use Rattle.grammar.specs.Members.{MembersAre, MembersBreak, none, more, alone, repeated, here, later}
use Rattle.grammar.specs.PassTwo.{FieldNamed, MethodNamed, BreaksField, BreaksFields, BreaksParam, BreaksParams, BreaksMethod, BreaksMethods}
use Rattle.grammar.specs.PassTwo.{field, param, method, hides, params, overrides}
use Rattle.grammar.proofs.OneParts.{FieldParts, MethodParts, ParamParts, ListParts, field_parts_one, method_parts_one, param_parts_one, list_parts_one}
use Rattle.grammar.proofs.Verdicts.{Single, Judged, Known, Sought, Guard, Then, Inside, Loop, good, bad, on, off, result, fault, done, stop, turn}
use Rattle.grammar.proofs.Verdicts.{is_one, known_one, sought_one, guard_one, then_one, inside_one, loop_one, single_by}

module _ (T : List Node) (cs : List OneClass) where
  -- rule 0.2
  abbrev Naming : ℕ → Result Ty RuleFault → Type 0
  Naming a = Sought (Names T cs a) (broken TypeName a)

  naming_one : (a : ℕ) → Single (Naming a)
  naming_one a = sought_one _ _ (λ t u x y. cc)

  unnamed : {a : ℕ} → type_env cs (symbol_at T a) ≡ None → Naming a (Err (broken TypeName a))
  unnamed n = bad (λ t h. grind arith, refl)

  -- a type that is not void, for the rule r at p
  abbrev NotVoid : Rule → ℕ → ℕ → Result Ty RuleFault → Type 0
  NotVoid r p a = Then (Naming a) λ t. Guard (t ≡ Void → ⊥) t (broken r p)

  not_void_one : (r : Rule) (p a : ℕ) → Single (NotVoid r p a)
  not_void_one r p a = then_one _ _ (naming_one a) λ t. guard_one _ _ _

  -- rule 2.9
  abbrev Parameter : ℕ → Result Ty RuleFault → Type 0
  Parameter p = Then (Known (ParamParts T p)) λ i. NotVoid Param p i.0

  parameter : {p : ℕ} {t : Ty} → ParamIs T cs p t → Parameter p (Ok t)
  parameter (param e n v) = on (good e) (on (good n) (good (v, refl)))

  breaks_param : {p : ℕ} {f : RuleFault} → BreaksParam T cs p f → Parameter p (Err f)
  breaks_param (BreaksParam.no_type e n) = on (good e) (off (unnamed n))
  breaks_param (BreaksParam.void e n) = on (good e) (on (good n) (bad (λ h. h refl, refl)))

  -- rule 2.8
  abbrev ParamTurn : List Ty → ℕ → Result (List Ty) RuleFault → Type 0
  ParamTurn ts q = Then (Parameter q) λ t r. r ≡ Ok (ts ++ t ∷ [])

  param_turn_one : (ts : List Ty) (q : ℕ) → Single (ParamTurn ts q)
  param_turn_one ts q = then_one _ _ (then_one _ _ (known_one _ (param_parts_one T q)) λ i. not_void_one _ _ _) λ t. is_one _

  abbrev Parameters : ℕ → List Ty → ℕ → Result (List Ty) RuleFault → Type 0
  Parameters e = Loop (λ ts. ts) (end_of T) ParamTurn e

  params_are : {e : ℕ} {ts us : List Ty} {q : ℕ} → ParamsAre T cs e ts q us → Parameters e ts q (Ok us)
  params_are ParamsAre.none = done
  params_are (ParamsAre.more h d z) = turn h (on (parameter d) refl) (params_are z)

  breaks_params : {e q : ℕ} {f : RuleFault} → BreaksParams T cs e q f → (ts : List Ty) → Parameters e ts q (Err f)
  breaks_params (BreaksParams.here h b) ts = stop h (off (breaks_param b))
  breaks_params (BreaksParams.later h d z) ts = turn h (on (parameter d) refl) (breaks_params z _)

-- Rules 2.4 and 2.6: members one behind the other, no two with one name. Each has one Identifier and one declaration.
module _ (T : List Node) (r : Rule) (Named : ℕ → ℕ → Type 0) (Is : ℕ → ℕ → Member → Type 0) (Breaks : ℕ → RuleFault → Type 0) where
  abbrev MemberTurn : List Member → ℕ → Result (List Member) MemberFault → Type 0
  MemberTurn M q =
      Then (Known (Named q)) λ b.
      Inside (in_member (symbol_at T b)) (Then (Judged (Is (length M) q) (Breaks q)) λ m. Guard (lookup called M m.name ≡ None) (M ++ m ∷ []) (broken r b))

  abbrev pub MembersFrom : ℕ → List Member → ℕ → Result (List Member) MemberFault → Type 0
  MembersFrom e = Loop (λ M. M) (end_of T) MemberTurn e

  module _ (named : (i q : ℕ) (m : Member) → Is i q m → (b : ℕ) × Named q b) where
    member_turn : (M : List Member) {q : ℕ} {m : Member} → Is (length M) q m → lookup called M m.name ≡ None → MemberTurn M q (Ok (M ++ m ∷ []))
    member_turn M d l = on (good (named _ _ _ d).1) (result (on (good d) (good (l, refl))))

    pub members_are : {e : ℕ} {M N : List Member} {q : ℕ} → MembersAre T Is e M q N → MembersFrom e M q (Ok N)
    members_are none = done
    members_are (more h d n z) = turn h (member_turn _ d n) (members_are z)

    pub members_break : {e : ℕ} {M : List Member} {q : ℕ} {f : MemberFault} → MembersBreak T r Named Is Breaks e M q f → MembersFrom e M q (Err f)
    members_break (here h v (alone b)) = stop h (on (good v) (fault (off (bad b))))
    members_break (here h v (repeated d n)) = stop h (on (good v) (fault (on (good d) (bad (λ l. grind arith, refl)))))
    members_break (later h d n z) = turn h (member_turn _ d n) (members_break z)

  pub members_from_one : ((q b c : ℕ) → Named q b → Named q c → b ≡ c) → ((i q : ℕ) → Single (Judged (Is i q) (Breaks q))) → (e : ℕ) (M : List Member) (q : ℕ) → Single (MembersFrom e M q)
  members_from_one names item e = loop_one _ _ _ e (λ M q. then_one _ _ (known_one _ (names q)) λ b. inside_one _ _ (then_one _ _ (item _ q) λ m. guard_one _ _ _))

module _ (T : List Node) (x : Scope) where
  -- rule 2.5
  abbrev FieldAt : ℕ → ℕ → Result Member RuleFault → Type 0
  FieldAt n p =
      Then (Known (FieldParts T p)) λ i.
      Then (NotVoid T x.classes Field p i.1) λ t.
      Guard (Hides (x.inherited (symbol_at T i.2)))
      (record { name = symbol_at T i.2; definition = record { nature = FieldNature (visible i.0) x.number (x.cells + n); of = t }; node = Some (x.kept + p) })
      (broken Field p)

  field_at : {n p : ℕ} {m : Member} → FieldIs T x n p m → FieldAt n p (Ok m)
  field_at (field e n v h) = on (good e) (on (on (good n) (good (v, refl))) (good (h, refl)))

  breaks_field : (n : ℕ) {p : ℕ} {f : RuleFault} → BreaksField T x p f → FieldAt n p (Err f)
  breaks_field _ (BreaksField.no_type e n) = on (good e) (off (off (unnamed T x.classes n)))
  breaks_field _ (BreaksField.void e n) = on (good e) (off (on (good n) (bad (λ h. h refl, refl))))
  breaks_field _ (hides e n v h) = on (good e) (on (on (good n) (good (v, refl))) (bad (h, refl)))

  field_one : (n p : ℕ) → Single (Judged (FieldIs T x n p) (BreaksField T x p))
  field_one n p = single_by (FieldAt n p) (then_one _ _ (known_one _ (field_parts_one T p)) λ i. then_one _ _ (not_void_one T x.classes _ _ _) λ t. guard_one _ _ _) (λ m. field_at) (λ f. breaks_field n)

  abbrev pub FieldsFrom : ℕ → List Member → ℕ → Result (List Member) MemberFault → Type 0
  FieldsFrom = MembersFrom T Fields (FieldNamed T) (FieldIs T x) (BreaksField T x)

  pub fields_from_one : (e : ℕ) (F : List Member) (q : ℕ) → Single (FieldsFrom e F q)
  fields_from_one = members_from_one T _ _ _ _ (λ q b c s t. let u = s.3 in let v = t.3 in cc) field_one

  field_named : (i q : ℕ) (m : Member) → FieldIs T x i q m → (b : ℕ) × FieldNamed T q b
  field_named i q m (field e n v h) = (_, (_, _, _, e))

  pub fields_are : {e : ℕ} {F G : List Member} {q : ℕ} → FieldsAre T x e F q G → FieldsFrom e F q (Ok G)
  fields_are = members_are T _ _ _ _ field_named

  pub breaks_fields : {e : ℕ} {F : List Member} {q : ℕ} {f : MemberFault} → BreaksFields T x e F q f → FieldsFrom e F q (Err f)
  breaks_fields = members_break T _ _ _ _ field_named

  -- rule 2.7
  abbrev MethodAt : ℕ → Result Member RuleFault → Type 0
  MethodAt p =
      Then (Known (MethodParts T p)) λ i.
      Then (Naming T x.classes i.0) λ t.
      Then (Known (ListParts T i.2)) λ l.
      Then (Parameters T x.classes l.1 [] l.0) λ ts.
      Guard (MayOverride x.classes (signature ts) t (x.inherited (symbol_at T i.1)))
      (record { name = symbol_at T i.1; definition = record { nature = MethodNature (signature ts); of = t }; node = Some (x.kept + p) })
      (broken Method p)

  method_at : {p : ℕ} {m : Member} → MethodIs T x p m → MethodAt p (Ok m)
  method_at (method e n l ps o) = on (good e) (on (good n) (on (good l) (on (params_are T x.classes ps) (good (o, refl)))))

  breaks_method : {p : ℕ} {f : RuleFault} → BreaksMethod T x p f → MethodAt p (Err f)
  breaks_method (BreaksMethod.no_type e n) = on (good e) (off (unnamed T x.classes n))
  breaks_method (params e n l b) = on (good e) (on (good n) (on (good l) (off (breaks_params T x.classes b []))))
  breaks_method (overrides e n l ps o) = on (good e) (on (good n) (on (good l) (on (params_are T x.classes ps) (bad (o, refl)))))

  method_one : (i p : ℕ) → Single (Judged (MethodIs T x p) (BreaksMethod T x p))
  method_one i p =
      single_by (MethodAt p)
      (then_one _ _ (known_one _ (method_parts_one T p)) λ i.
      then_one _ _ (naming_one T x.classes _) λ t.
      then_one _ _ (known_one _ (list_parts_one T _)) λ l.
      then_one _ _ (loop_one _ _ _ _ (param_turn_one T x.classes) _ _) λ ts.
      guard_one _ _ _)
      (λ m. method_at) (λ f. breaks_method)

  abbrev pub MethodsFrom : ℕ → List Member → ℕ → Result (List Member) MemberFault → Type 0
  MethodsFrom = MembersFrom T Methods (MethodNamed T) (λ i. MethodIs T x) (BreaksMethod T x)

  pub methods_from_one : (e : ℕ) (M : List Member) (q : ℕ) → Single (MethodsFrom e M q)
  methods_from_one = members_from_one T _ _ _ _ (λ q b c s t. let u = s.3 in let v = t.3 in cc) method_one

  method_named : (i q : ℕ) (m : Member) → MethodIs T x q m → (b : ℕ) × MethodNamed T q b
  method_named i q m (method e n v ps o) = (_, (_, _, _, e))

  pub methods_are : {e : ℕ} {M N : List Member} {q : ℕ} → MethodsAre T x e M q N → MethodsFrom e M q (Ok N)
  methods_are = members_are T _ _ _ _ method_named

  pub breaks_methods : {e : ℕ} {M : List Member} {q : ℕ} {f : MemberFault} → BreaksMethods T x e M q f → MethodsFrom e M q (Err f)
  breaks_methods = members_break T _ _ _ _ method_named
