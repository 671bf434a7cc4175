-- The verdict on an expression, from the verdicts on those below it. A name that ends in V is that of a relation on verdicts.
use Rattle.std.proofs.Common.{◌≡◌, ℕ, zero, suc, ◌<◌, List, [], ◌∷◌, ◌++◌, Some, None, Ok, Err, Option, Result, sym, refl, ◌∙◌, arith}
use Rattle.table.specs.Shape.{end_of}
use Rattle.table.specs.View.{view}
use Rattle.table.specs.declared.kinds.Node.{Node}
use Rattle.table.specs.declared.view.Expression.{Expression}
use Rattle.table.specs.declared.view.Expression.TheVariants.{Assign, Binary, Unary, ReadInt, ReadFloat, Cast, InstanceOf, MethodCall, New, This, IntLiteral, FloatLiteral, StringLiteral, BooleanLiteral, NullLiteral, Selection, Identifier}
use Rattle.values.specs.declared.types.«Type».{«Type» as Ty}
use Rattle.values.specs.declared.types.«Type».TheVariants.{Boolean, Float, Int, String, Null, Class as ClassType}
use Rattle.types.specs.Subtypes.{Assignable, Castable}
use Rattle.types.specs.Operators.{UnaryTyped, BinaryTyped, InstanceTyped}
use Rattle.types.proofs.Typing.{unary_only, binary_only}
use Rattle.parts.specs.Parts.{symbol_at}
use Rattle.library.specs.declared.definition.Nature.TheVariants.{Method}
use Rattle.library.specs.declared.member.Member.{Member}
use Rattle.library.specs.Environments.{type_env}
use Rattle.grammar.specs.Faults.{broken}
use Rattle.grammar.specs.declared.fault.Rule.TheVariants as rule
use Rattle.grammar.specs.declared.fault.RuleFault.{RuleFault}
use Rattle.grammar.proofs.OneParts.{ListParts, list_parts_one}
use Rattle.grammar.proofs.Verdicts.{Single, Judged, Known, Sought, Guard, Then, good, bad, on}
use Rattle.grammar.proofs.Verdicts.{is_one, judged_one, known_one, sought_one, guard_one, then_one}
use Rattle.typing.specs.Views.{evaluates}
use Rattle.typing.specs.Settings.{Setting, in_view, Log}
use Rattle.typing.specs.Expressions.{types_of, typed, defined, Literal, Variable, Selects, IsClass, IsField}

-- what a look-up finds, and f where it finds nothing
abbrev pub Looked : {X F : Type 0} → Option X → F → Result X F → Type 0
Looked o f = Sought (λ z. o ≡ Some z) f

looked_one : {X F : Type 0} (o : Option X) (f : F) → Single (Looked o f)
looked_one o f = sought_one _ _ (λ z w a b. cc)

pub nothing : {X F : Type 0} {o : Option X} (f : F) → o ≡ None → Looked o f (Err f)
nothing f n = bad (λ z h. grind arith, refl)

-- the class of a type, and f where it has none
abbrev pub ClassOf : Ty → RuleFault → Result ℕ RuleFault → Type 0
ClassOf t f = Sought (λ k. t ≡ ClassType k) f

class_of_one : (t : Ty) (f : RuleFault) → Single (ClassOf t f)
class_of_one t f = sought_one _ _ (λ k j a b. cc)

pub no_class : {t : Ty} (f : RuleFault) → (IsClass t → ⊥) → ClassOf t f (Err f)
no_class f n = bad (λ k e. n (rw e tt), refl)

-- the type of an expression, and the attributes of its nodes
abbrev pub Found : Type 0
Found = Ty × Log

module _ (T : List Node) (x : Setting) where
  -- rule 0.2
  abbrev Naming : ℕ → Result Ty RuleFault → Type 0
  Naming a = Looked (type_env x.classes (symbol_at T a)) (broken rule.TypeName a)

  -- rule 0.1, in the class k
  abbrev MemberAt : ℕ → ℕ → Result Member RuleFault → Type 0
  MemberAt k b = Looked (x.members k (symbol_at T b)) (broken rule.Identifier b)

  -- over E, the verdicts on the expressions below
  module _ (E : ℕ → Result Found RuleFault → Type 0) where
    -- rules 3.67 to 3.69
    abbrev NameV : ℕ → ℕ → Result Found RuleFault → Type 0
    NameV p y =
        Then (Looked (in_view x y) (broken rule.Identifier p)) λ d.
        Guard (Variable d.nature) (d.of, defined p d) (broken rule.Variable p)

    -- rules 3.65, 3.66, 3.70
    abbrev SelectionV : ℕ → ℕ → ℕ → Result Found RuleFault → Type 0
    SelectionV p a b =
        Then (E a) λ o.
        Then (ClassOf o.0 (broken rule.Selection p)) λ k.
        Then (MemberAt k b) λ m.
        Then (Guard (IsField m.definition.nature) m.definition (broken rule.FieldName b)) λ d.
        Guard (Selects x.classes x.class k d.nature) (d.of, o.1 ++ defined b d ++ typed p d.of) (broken rule.Protected p)

    -- rule 3.64
    pub data LvalueV (p : ℕ) (r : Result Found RuleFault) : Type 0 where
      name : {y : ℕ} → view T p ≡ evaluates (Identifier y) → NameV p y r → LvalueV p r
      selection : {a b : ℕ} → view T p ≡ evaluates (Selection a b) → SelectionV p a b r → LvalueV p r

    -- rule 3.28
    abbrev pub RvalueV : Ty → ℕ → Result Log RuleFault → Type 0
    RvalueV t p = Then (E p) λ a. Guard (Assignable x.classes t a.0) a.1 (broken rule.Assigned p)

    -- rules 3.73 and 3.74, for the call at c
    abbrev pub ArgsV : ℕ → ℕ → List Ty → ℕ → Result Log RuleFault → Type 0
    ArgsV c e [] q = Judged (λ W. (q ≡ e) × (W ≡ [])) (λ f. (q < e) × (f ≡ broken rule.ExtraArgument q))
    ArgsV c e (t ∷ ts) q =
        Then (Judged (λ u. (q < e) × (u ≡ t)) (λ f. (q ≡ e) × (f ≡ broken rule.MissingArgument c))) λ u.
        Then (RvalueV u q) λ V.
        Then (ArgsV c e ts (end_of T q)) λ W s.
        s ≡ Ok (V ++ W)

    -- the rule of each expression, at p
    abbrev pub RuleV : ℕ → Expression → Result Found RuleFault → Type 0
    RuleV p (Assign l r) = Then (LvalueV l) λ a. Then (RvalueV a.0 r) λ W s. s ≡ Ok (a.0, a.1 ++ W ++ typed p a.0)
    RuleV p (Binary o l r) =
        Then (E l) λ a.
        Then (E r) λ b.
        Then (Sought (BinaryTyped o a.0 b.0) (broken rule.Binary p)) λ v s.
        s ≡ Ok (v, a.1 ++ b.1 ++ typed p v)
    RuleV p (Unary o l) = Then (E l) λ a. Then (Sought (UnaryTyped o a.0) (broken rule.Unary p)) λ v s. s ≡ Ok (v, a.1 ++ typed p v)
    RuleV p ReadInt = λ s. s ≡ Ok (Int, typed p Int)
    RuleV p ReadFloat = λ s. s ≡ Ok (Float, typed p Float)
    RuleV p (Cast a b) = Then (Naming a) λ t. Then (E b) λ u. Guard (Castable x.classes u.0 t) (t, typed a t ++ u.1 ++ typed p t) (broken rule.Cast p)
    RuleV p (InstanceOf a b) = Then (E a) λ t. Then (Naming b) λ u. Guard (InstanceTyped t.0 u) (Boolean, t.1 ++ typed b u ++ typed p Boolean) (broken rule.InstanceOf p)
    RuleV p (MethodCall a b c) =
        Then (E a) λ o.
        Then (ClassOf o.0 (broken rule.MethodCall p)) λ k.
        Then (MemberAt k b) λ m.
        Then (Sought (λ s. m.definition.nature ≡ Method s) (broken rule.MethodName b)) λ s.
        Then (Known (ListParts T c)) λ l.
        Then (ArgsV p l.1 (types_of s) l.0) λ V r.
        r ≡ Ok (m.definition.of, o.1 ++ defined b m.definition ++ V ++ typed p m.definition.of)
    RuleV p (New a) = Then (Naming a) λ t. Guard (IsClass t) (t, typed a t ++ typed p t) (broken rule.New p)
    RuleV p This = Then (Looked x.class (broken rule.This p)) λ k s. s ≡ Ok (ClassType k, typed p (ClassType k))
    RuleV p (IntLiteral w) = λ s. s ≡ Ok (Int, typed p Int)
    RuleV p (FloatLiteral w) = λ s. s ≡ Ok (Float, typed p Float)
    RuleV p (StringLiteral w) = λ s. s ≡ Ok (String, typed p String)
    RuleV p (BooleanLiteral w) = λ s. s ≡ Ok (Boolean, typed p Boolean)
    RuleV p NullLiteral = λ s. s ≡ Ok (Null, typed p Null)
    RuleV p (Selection a b) = SelectionV p a b
    RuleV p (Identifier y) = NameV p y

    pub literal_rule : (p : ℕ) {e : Expression} {t : Ty} → Literal e t → RuleV p e (Ok (t, typed p t))
    literal_rule p Literal.int = refl
    literal_rule p Literal.float = refl
    literal_rule p Literal.string = refl
    literal_rule p Literal.boolean = refl
    literal_rule p Literal.null = refl

    -- the expression at p
    abbrev pub NodeV : ℕ → Result Found RuleFault → Type 0
    NodeV p = Then (Known (λ e. view T p ≡ evaluates e)) (RuleV p)

    pub left_node : {p : ℕ} {r : Result Found RuleFault} → LvalueV p r → NodeV p r
    left_node (name e v) = on (good e) v
    left_node (selection e v) = on (good e) v

    module _ (one : (p : ℕ) → Single (E p)) where
      name_one : (p y : ℕ) → Single (NameV p y)
      name_one p y = then_one _ _ (looked_one _ _) λ d. guard_one _ _ _

      selection_one : (p a b : ℕ) → Single (SelectionV p a b)
      selection_one p a b =
          then_one _ _ (one a) λ o.
          then_one _ _ (class_of_one _ _) λ k.
          then_one _ _ (looked_one _ _) λ m.
          then_one _ _ (guard_one _ _ _) λ d.
          guard_one _ _ _

      pub lvalue_one : (p : ℕ) → Single (LvalueV p)
      lvalue_one p r s (name {y = y} e v) (name {y = z} f w) = let h : z ≡ y = cc in name_one p _ _ _ v (rw h at w)
      lvalue_one p r s (name e v) (selection f w) = cc
      lvalue_one p r s (selection e v) (name f w) = cc
      lvalue_one p r s (selection {a = a} {b = b} e v) (selection {a = c} {b = d} f w) = let h : c ≡ a = cc in let g : d ≡ b = cc in selection_one p _ _ _ _ v (rw (h, g) at w)

      pub rvalue_one : (t : Ty) (p : ℕ) → Single (RvalueV t p)
      rvalue_one t p = then_one _ _ (one p) λ a. guard_one _ _ _

      pub args_one : (c e : ℕ) (ts : List Ty) (q : ℕ) → Single (ArgsV c e ts q)
      args_one c e [] q = judged_one _ _ (λ V W a b. a.1 ∙ sym b.1) (λ f g a b. a.1 ∙ sym b.1) (λ W f a b. omega arith)
      args_one c e (t ∷ ts) q =
          then_one _ _ (judged_one _ _ (λ u v a b. a.1 ∙ sym b.1) (λ f g a b. a.1 ∙ sym b.1) (λ u f a b. omega arith)) λ u.
          then_one _ _ (rvalue_one u q) λ V.
          then_one _ _ (args_one c e ts (end_of T q)) λ W.
          is_one _

      rule_one : (p : ℕ) (e : Expression) → Single (RuleV p e)
      rule_one p (Assign l r) = then_one _ _ (lvalue_one l) λ a. then_one _ _ (rvalue_one _ r) λ W. is_one _
      rule_one p (Binary o l r) = then_one _ _ (one l) λ a. then_one _ _ (one r) λ b. then_one _ _ (sought_one _ _ (binary_only o _ _)) λ v. is_one _
      rule_one p (Unary o l) = then_one _ _ (one l) λ a. then_one _ _ (sought_one _ _ (unary_only o _)) λ v. is_one _
      rule_one p ReadInt = is_one _
      rule_one p ReadFloat = is_one _
      rule_one p (Cast a b) = then_one _ _ (looked_one _ _) λ t. then_one _ _ (one b) λ u. guard_one _ _ _
      rule_one p (InstanceOf a b) = then_one _ _ (one a) λ t. then_one _ _ (looked_one _ _) λ u. guard_one _ _ _
      rule_one p (MethodCall a b c) =
          then_one _ _ (one a) λ o.
          then_one _ _ (class_of_one _ _) λ k.
          then_one _ _ (looked_one _ _) λ m.
          then_one _ _ (sought_one _ _ (λ s z a b. cc)) λ s.
          then_one _ _ (known_one _ (list_parts_one T c)) λ l.
          then_one _ _ (args_one p _ _ _) λ V.
          is_one _
      rule_one p (New a) = then_one _ _ (looked_one _ _) λ t. guard_one _ _ _
      rule_one p This = then_one _ _ (looked_one _ _) λ k. is_one _
      rule_one p (IntLiteral w) = is_one _
      rule_one p (FloatLiteral w) = is_one _
      rule_one p (StringLiteral w) = is_one _
      rule_one p (BooleanLiteral w) = is_one _
      rule_one p NullLiteral = is_one _
      rule_one p (Selection a b) = selection_one p a b
      rule_one p (Identifier y) = name_one p y

      node_one : (p : ℕ) → Single (NodeV p)
      node_one p = then_one _ _ (known_one _ (λ e f a b. cc)) (rule_one p)

  -- the verdict on the expression at p, if it is at most n expressions deep
  abbrev pub ExprV : ℕ → ℕ → Result Found RuleFault → Type 0
  ExprV zero p r = ⊥
  ExprV (suc n) p r = NodeV (ExprV n) p r

  pub expr_one : (n p : ℕ) → Single (ExprV n p)
  expr_one zero p r s a b = absurd a
  expr_one (suc n) p r s a b = node_one (ExprV n) (expr_one n) p r s a b
