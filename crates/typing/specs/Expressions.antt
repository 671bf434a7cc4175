-- Pass three: expressions.
use Rattle.std.specs.Prelude.{◌≡◌, ℕ, ◌<◌, List, [], ◌∷◌, ◌++◌, take, Some, None, Option}
use Rattle.table.specs.Shape.{end_of}
use Rattle.table.specs.View.{view}
use Rattle.table.specs.declared.kinds.Node.{Node}
use Rattle.table.specs.declared.view.BinaryOp.{BinaryOp}
use Rattle.table.specs.declared.view.UnaryOp.{UnaryOp}
use Rattle.table.specs.declared.view.Expression.{Expression}
use Rattle.table.specs.declared.view.Expression.TheVariants.{Assign, Binary, Unary, ReadInt, ReadFloat, Cast, InstanceOf, MethodCall, New, This, IntLiteral, FloatLiteral, StringLiteral, BooleanLiteral, NullLiteral, Selection, Identifier}
use Rattle.table.specs.declared.view.View.TheVariants.{List as Elements}
use Rattle.values.specs.declared.types.«Type».{«Type» as Ty}
use Rattle.values.specs.declared.types.«Type».TheVariants.{Void, Boolean, Float, Int, String, Null, Class as ClassType}
use Rattle.types.specs.declared.class.Class.{Class}
use Rattle.types.specs.Subtypes.{Subtype, Assignable, Castable}
use Rattle.types.specs.Operators.{UnaryTyped, BinaryTyped, InstanceTyped}
use Rattle.parts.specs.Parts.{symbol_at}
use Rattle.library.specs.declared.attribute.Attribute.TheVariants.{«Type» as Typed, Definition as Defined}
use Rattle.library.specs.declared.definition.Definition.{Definition}
use Rattle.library.specs.declared.definition.Signature.{Signature}
use Rattle.library.specs.declared.definition.Nature.{Nature}
use Rattle.library.specs.declared.definition.Nature.TheVariants.{Param, Var, Method, Field}
use Rattle.library.specs.declared.definition.Visibility.{Visibility}
use Rattle.library.specs.declared.definition.Visibility.TheVariants.{Public, Protected}
use Rattle.library.specs.declared.member.Member.{Member}
use Rattle.library.specs.Environments.{type_env}
use Rattle.grammar.specs.PassTwo.{Names}
use Rattle.grammar.specs.Faults.{broken}
use Rattle.grammar.specs.declared.fault.Rule.TheVariants as rule
use Rattle.grammar.specs.declared.fault.RuleFault.{RuleFault}
use Rattle.typing.specs.Views.{evaluates}
use Rattle.typing.specs.Settings.{Setting, in_view, Log}

-- the types of a signature
abbrev pub types_of : Signature → List Ty
types_of s = take s.count s.types

-- Rules 3.44 to 3.48.
pub data Literal : Expression → Ty → Type 0 where
  int : {w : ℕ} → Literal (IntLiteral w) Int
  float : {w : ℕ} → Literal (FloatLiteral w) Float
  string : {w : ℕ} → Literal (StringLiteral w) String
  boolean : {b : _} → Literal (BooleanLiteral b) Boolean
  null : Literal NullLiteral Null

-- Rules 3.67 to 3.69: a field, a parameter or a variable.
abbrev pub Variable : Nature → Type 0
Variable Param = Unit {0}
Variable Var = Unit {0}
Variable (Method s) = ⊥
Variable (Field v c i) = Unit {0}

-- the nature is that of a field
abbrev pub IsField : Nature → Type 0
IsField Param = ⊥
IsField Var = ⊥
IsField (Method s) = ⊥
IsField (Field v c i) = Unit {0}

-- the nature is that of a method
abbrev pub IsMethod : Nature → Type 0
IsMethod Param = ⊥
IsMethod Var = ⊥
IsMethod (Method s) = Unit {0}
IsMethod (Field v c i) = ⊥

-- the type is that of a class
abbrev pub IsClass : Ty → Type 0
IsClass Void = ⊥
IsClass Boolean = ⊥
IsClass Float = ⊥
IsClass Int = ⊥
IsClass String = ⊥
IsClass Null = ⊥
IsClass (ClassType k) = Unit {0}

-- Rule 3.66: in a class, a protected field of a class that it extends, from an object of a class that extends it; in Main none.
abbrev pub SelectsProtected : List Class → Option ℕ → ℕ → ℕ → Type 0
SelectsProtected cs None k c = ⊥
SelectsProtected cs (Some j) k c = Subtype cs (ClassType k) (ClassType j) × Subtype cs (ClassType j) (ClassType c)

abbrev pub SelectsField : List Class → Option ℕ → ℕ → Visibility → ℕ → Type 0
SelectsField cs o k Public c = Unit {0}
SelectsField cs o k Protected c = SelectsProtected cs o k c

-- Rules 3.65 and 3.66: what may be selected from an object of the class k
abbrev pub Selects : List Class → Option ℕ → ℕ → Nature → Type 0
Selects cs o k Param = ⊥
Selects cs o k Var = ⊥
Selects cs o k (Method s) = ⊥
Selects cs o k (Field v c i) = SelectsField cs o k v c

abbrev pub typed : ℕ → Ty → Log
typed p t = (p, Typed t) ∷ []

abbrev pub defined : ℕ → Definition → Log
defined p d = (p, Defined d) ∷ []

-- The relations have the attributes of all nodes below, in order, and the node's own last.
mutual
  pub data Expr (T : List Node) (x : Setting) : ℕ → Ty → Log → Type 0 where
    -- 3.32: what is assigned goes where the left side is declared, and the left side gives the type
    assign : {p l r : ℕ} {t : Ty} {V W : Log} → view T p ≡ evaluates (Assign l r) → Lvalue T x l t V → Rvalue T x t r W →
        Expr T x p t (V ++ W ++ typed p t)
    -- 3.33
    binary : {p l r : ℕ} {o : BinaryOp} {t u v : Ty} {V W : Log} → view T p ≡ evaluates (Binary o l r) → Expr T x l t V → Expr T x r u W →
        BinaryTyped o t u v → Expr T x p v (V ++ W ++ typed p v)
    -- 3.34: an Identifier or a Selection
    lvalue : {p : ℕ} {t : Ty} {W : Log} → Lvalue T x p t W → Expr T x p t W
    -- 3.35, 3.36
    read_int : {p : ℕ} → view T p ≡ evaluates ReadInt → Expr T x p Int (typed p Int)
    read_float : {p : ℕ} → view T p ≡ evaluates ReadFloat → Expr T x p Float (typed p Float)
    -- 3.37
    unary : {p l : ℕ} {o : UnaryOp} {t v : Ty} {W : Log} → view T p ≡ evaluates (Unary o l) → Expr T x l t W → UnaryTyped o t v →
        Expr T x p v (W ++ typed p v)
    -- 3.38
    literal : {p : ℕ} {e : Expression} {t : Ty} → view T p ≡ evaluates e → Literal e t → Expr T x p t (typed p t)
    -- 3.39
    cast : {p a b : ℕ} {t u : Ty} {W : Log} → view T p ≡ evaluates (Cast a b) → Names T x.classes a t → Expr T x b u W → Castable x.classes u t →
        Expr T x p t (typed a t ++ W ++ typed p t)
    -- 3.40
    instance_of : {p a b : ℕ} {t u : Ty} {W : Log} → view T p ≡ evaluates (InstanceOf a b) → Expr T x a t W → Names T x.classes b u → InstanceTyped t u →
        Expr T x p Boolean (W ++ typed b u ++ typed p Boolean)
    -- 3.41, 3.71: the method is one of the class of the receiver
    method_call : {p a b c k q e : ℕ} {W V : Log} {m : Member} {s : Signature} → view T p ≡ evaluates (MethodCall a b c) → Expr T x a (ClassType k) W →
        x.members k (symbol_at T b) ≡ Some m → m.definition.nature ≡ Method s →
        view T c ≡ Elements q e → Args T x e (types_of s) q V →
        Expr T x p m.definition.of (W ++ defined b m.definition ++ V ++ typed p m.definition.of)
    -- 3.42
    new : {p a : ℕ} {t : Ty} → view T p ≡ evaluates (New a) → Names T x.classes a t → IsClass t → Expr T x p t (typed a t ++ typed p t)
    -- 3.43: of the class around
    this : {p k : ℕ} → view T p ≡ evaluates This → x.class ≡ Some k → Expr T x p (ClassType k) (typed p (ClassType k))

  pub data Lvalue (T : List Node) (x : Setting) : ℕ → Ty → Log → Type 0 where
    -- 3.64, 3.67 to 3.69
    name : {p y : ℕ} {d : Definition} → view T p ≡ evaluates (Identifier y) → in_view x y ≡ Some d → Variable d.nature → Lvalue T x p d.of (defined p d)
    -- 3.65, 3.66, 3.70
    selection : {p a b k : ℕ} {W : Log} {m : Member} → view T p ≡ evaluates (Selection a b) → Expr T x a (ClassType k) W →
        x.members k (symbol_at T b) ≡ Some m → Selects x.classes x.class k m.definition.nature →
        Lvalue T x p m.definition.of (W ++ defined b m.definition ++ typed p m.definition.of)

  -- 3.28: a value that may be assigned where t is declared
  pub data Rvalue (T : List Node) (x : Setting) : Ty → ℕ → Log → Type 0 where
    value : {p : ℕ} {t u : Ty} {W : Log} → Expr T x p u W → Assignable x.classes t u → Rvalue T x t p W

  -- 3.73, 3.74: the arguments from q to e, one for each type
  pub data Args (T : List Node) (x : Setting) : ℕ → List Ty → ℕ → Log → Type 0 where
    none : {e : ℕ} → Args T x e [] e []
    more : {t : Ty} {ts : List Ty} {e q : ℕ} {V W : Log} → q < e → Rvalue T x t q V → Args T x e ts (end_of T q) W → Args T x e (t ∷ ts) q (V ++ W)

-- How an expression, a left side, a value or arguments break a rule first.
mutual
  pub data BreaksExpr (T : List Node) (x : Setting) : ℕ → RuleFault → Type 0 where
    assign_left : {p l r : ℕ} {f : RuleFault} → view T p ≡ evaluates (Assign l r) → BreaksLvalue T x l f → BreaksExpr T x p f
    assign_right : {p l r : ℕ} {t : Ty} {V : Log} {f : RuleFault} → view T p ≡ evaluates (Assign l r) → Lvalue T x l t V → BreaksRvalue T x t r f → BreaksExpr T x p f
    binary_left : {p l r : ℕ} {o : BinaryOp} {f : RuleFault} → view T p ≡ evaluates (Binary o l r) → BreaksExpr T x l f → BreaksExpr T x p f
    binary_right : {p l r : ℕ} {o : BinaryOp} {t : Ty} {V : Log} {f : RuleFault} → view T p ≡ evaluates (Binary o l r) → Expr T x l t V → BreaksExpr T x r f → BreaksExpr T x p f
    no_binary : {p l r : ℕ} {o : BinaryOp} {t u : Ty} {V W : Log} → view T p ≡ evaluates (Binary o l r) → Expr T x l t V → Expr T x r u W →
        ((v : Ty) → BinaryTyped o t u v → ⊥) → BreaksExpr T x p (broken rule.Binary p)
    lvalue : {p : ℕ} {f : RuleFault} → BreaksLvalue T x p f → BreaksExpr T x p f
    unary_operand : {p l : ℕ} {o : UnaryOp} {f : RuleFault} → view T p ≡ evaluates (Unary o l) → BreaksExpr T x l f → BreaksExpr T x p f
    no_unary : {p l : ℕ} {o : UnaryOp} {t : Ty} {W : Log} → view T p ≡ evaluates (Unary o l) → Expr T x l t W →
        ((v : Ty) → UnaryTyped o t v → ⊥) → BreaksExpr T x p (broken rule.Unary p)
    cast_type : {p a b : ℕ} → view T p ≡ evaluates (Cast a b) → type_env x.classes (symbol_at T a) ≡ None → BreaksExpr T x p (broken rule.TypeName a)
    cast_value : {p a b : ℕ} {t : Ty} {f : RuleFault} → view T p ≡ evaluates (Cast a b) → Names T x.classes a t → BreaksExpr T x b f → BreaksExpr T x p f
    no_cast : {p a b : ℕ} {t u : Ty} {W : Log} → view T p ≡ evaluates (Cast a b) → Names T x.classes a t → Expr T x b u W →
        (Castable x.classes u t → ⊥) → BreaksExpr T x p (broken rule.Cast p)
    instance_value : {p a b : ℕ} {f : RuleFault} → view T p ≡ evaluates (InstanceOf a b) → BreaksExpr T x a f → BreaksExpr T x p f
    instance_type : {p a b : ℕ} {t : Ty} {W : Log} → view T p ≡ evaluates (InstanceOf a b) → Expr T x a t W →
        type_env x.classes (symbol_at T b) ≡ None → BreaksExpr T x p (broken rule.TypeName b)
    no_instance : {p a b : ℕ} {t u : Ty} {W : Log} → view T p ≡ evaluates (InstanceOf a b) → Expr T x a t W → Names T x.classes b u →
        (InstanceTyped t u → ⊥) → BreaksExpr T x p (broken rule.InstanceOf p)
    receiver : {p a b c : ℕ} {f : RuleFault} → view T p ≡ evaluates (MethodCall a b c) → BreaksExpr T x a f → BreaksExpr T x p f
    no_receiver : {p a b c : ℕ} {t : Ty} {W : Log} → view T p ≡ evaluates (MethodCall a b c) → Expr T x a t W → (IsClass t → ⊥) → BreaksExpr T x p (broken rule.MethodCall p)
    no_method : {p a b c k : ℕ} {W : Log} → view T p ≡ evaluates (MethodCall a b c) → Expr T x a (ClassType k) W →
        x.members k (symbol_at T b) ≡ None → BreaksExpr T x p (broken rule.Identifier b)
    other_method : {p a b c k : ℕ} {W : Log} {m : Member} → view T p ≡ evaluates (MethodCall a b c) → Expr T x a (ClassType k) W →
        x.members k (symbol_at T b) ≡ Some m → (IsMethod m.definition.nature → ⊥) → BreaksExpr T x p (broken rule.MethodName b)
    arguments : {p a b c k q e : ℕ} {W : Log} {m : Member} {s : Signature} {f : RuleFault} → view T p ≡ evaluates (MethodCall a b c) → Expr T x a (ClassType k) W →
        x.members k (symbol_at T b) ≡ Some m → m.definition.nature ≡ Method s →
        view T c ≡ Elements q e → BreaksArgs T x p e (types_of s) q f → BreaksExpr T x p f
    new_type : {p a : ℕ} → view T p ≡ evaluates (New a) → type_env x.classes (symbol_at T a) ≡ None → BreaksExpr T x p (broken rule.TypeName a)
    no_new : {p a : ℕ} {t : Ty} → view T p ≡ evaluates (New a) → Names T x.classes a t → (IsClass t → ⊥) → BreaksExpr T x p (broken rule.New p)
    no_this : {p : ℕ} → view T p ≡ evaluates This → x.class ≡ None → BreaksExpr T x p (broken rule.This p)

  pub data BreaksLvalue (T : List Node) (x : Setting) : ℕ → RuleFault → Type 0 where
    no_name : {p y : ℕ} → view T p ≡ evaluates (Identifier y) → in_view x y ≡ None → BreaksLvalue T x p (broken rule.Identifier p)
    no_variable : {p y : ℕ} {d : Definition} → view T p ≡ evaluates (Identifier y) → in_view x y ≡ Some d → (Variable d.nature → ⊥) →
        BreaksLvalue T x p (broken rule.Variable p)
    object : {p a b : ℕ} {f : RuleFault} → view T p ≡ evaluates (Selection a b) → BreaksExpr T x a f → BreaksLvalue T x p f
    no_object : {p a b : ℕ} {t : Ty} {W : Log} → view T p ≡ evaluates (Selection a b) → Expr T x a t W → (IsClass t → ⊥) → BreaksLvalue T x p (broken rule.Selection p)
    no_field : {p a b k : ℕ} {W : Log} → view T p ≡ evaluates (Selection a b) → Expr T x a (ClassType k) W →
        x.members k (symbol_at T b) ≡ None → BreaksLvalue T x p (broken rule.Identifier b)
    other_field : {p a b k : ℕ} {W : Log} {m : Member} → view T p ≡ evaluates (Selection a b) → Expr T x a (ClassType k) W →
        x.members k (symbol_at T b) ≡ Some m → (IsField m.definition.nature → ⊥) → BreaksLvalue T x p (broken rule.FieldName b)
    protected : {p a b k : ℕ} {W : Log} {m : Member} → view T p ≡ evaluates (Selection a b) → Expr T x a (ClassType k) W →
        x.members k (symbol_at T b) ≡ Some m → IsField m.definition.nature → (Selects x.classes x.class k m.definition.nature → ⊥) →
        BreaksLvalue T x p (broken rule.Protected p)

  pub data BreaksRvalue (T : List Node) (x : Setting) : Ty → ℕ → RuleFault → Type 0 where
    value : {p : ℕ} {t : Ty} {f : RuleFault} → BreaksExpr T x p f → BreaksRvalue T x t p f
    no_value : {p : ℕ} {t u : Ty} {W : Log} → Expr T x p u W → (Assignable x.classes t u → ⊥) → BreaksRvalue T x t p (broken rule.Assigned p)

  -- the arguments of the call at c
  pub data BreaksArgs (T : List Node) (x : Setting) : ℕ → ℕ → List Ty → ℕ → RuleFault → Type 0 where
    extra : {c e q : ℕ} → q < e → BreaksArgs T x c e [] q (broken rule.ExtraArgument q)
    missing : {t : Ty} {ts : List Ty} {c e : ℕ} → BreaksArgs T x c e (t ∷ ts) e (broken rule.MissingArgument c)
    here : {t : Ty} {ts : List Ty} {c e q : ℕ} {f : RuleFault} → q < e → BreaksRvalue T x t q f → BreaksArgs T x c e (t ∷ ts) q f
    later : {t : Ty} {ts : List Ty} {c e q : ℕ} {V : Log} {f : RuleFault} → q < e → Rvalue T x t q V → BreaksArgs T x c e ts (end_of T q) f → BreaksArgs T x c e (t ∷ ts) q f
