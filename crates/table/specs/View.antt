-- The view of a node: its kind with the places of its children.
use Rattle.std.specs.Prelude.{◌≡◌, ℕ, ◌+◌, cond, List, [], ◌∷◌, ◌==◌, nat_lt, slice_index_or}
use Rattle.table.specs.Shape.{Child, node_at, end_of}
use Rattle.table.specs.declared.kinds.Node.{Node}
use Rattle.table.specs.declared.kinds.Listed.TheVariants.{Classes, Fields, Methods, Params, Vars, Instructions, Expressions}
use Rattle.table.specs.declared.kinds.Class.{Class}
use Rattle.table.specs.declared.kinds.Class.TheVariants.{Name, Target, Initializer, Body, MainBlock, ListOf, Expression as AnyExpression}
use Rattle.table.specs.declared.view.BinaryOp.{BinaryOp}
use Rattle.table.specs.declared.view.BinaryOp.TheVariants.{Divide, Minus, Modulo, Multiply, Plus, And, Or, Equals, NotEquals, Greater, GreaterOrEquals, Lower, LowerOrEquals}
use Rattle.table.specs.declared.view.UnaryOp.TheVariants.{Minus as Negate, Not}
use Rattle.table.specs.declared.view.Expression.{Expression}
use Rattle.table.specs.declared.view.Expression.TheVariants.{Assign, Binary, Unary, ReadInt, ReadFloat, Cast, InstanceOf, MethodCall, New, This, IntLiteral, FloatLiteral, StringLiteral, BooleanLiteral, NullLiteral, Selection, Identifier}
use Rattle.table.specs.declared.view.Instruction.{Instruction}
use Rattle.table.specs.declared.view.Instruction.TheVariants.{Print, Println, IfThenElse, NoOperation, Return, While, Evaluate}
use Rattle.table.specs.declared.view.View.{View}
use Rattle.table.specs.declared.view.View.TheVariants.{Program, List as Elements, DeclClass, DeclField, DeclMethod, DeclParam, DeclVar, Initialization, NoInitialization, MethodBody, Main, EmptyMain, Execute, Nothing}

-- the position behind the part at q, if q lies before e: a size is read only inside the part that ends at e
abbrev pub past : List Node → ℕ → ℕ → ℕ
past ns e q = cond (nat_lt q e) (end_of ns q) q

abbrev expr : Expression → View
expr x = Execute (Evaluate x)

abbrev binary : BinaryOp → ℕ → ℕ → View
binary o a b = expr (Binary o a b)

-- the views in the order of the kinds' numbers, from 0: w is the word, a b c d the places of the children, e the end
abbrev pub heads : ℕ → ℕ → ℕ → ℕ → ℕ → ℕ → List View
heads w a b c d e =
    Nothing ∷
    Program a b ∷
    Elements a e ∷
    DeclClass a b c d ∷
    DeclField (w == 1) a b c ∷
    DeclMethod a b c d ∷
    DeclParam a b ∷
    DeclVar a b c ∷
    Initialization a ∷
    NoInitialization ∷
    MethodBody a b ∷
    Main a b ∷
    EmptyMain ∷
    Execute (Print a) ∷
    Execute (Println a) ∷
    Execute (IfThenElse a b c) ∷
    Execute NoOperation ∷
    Execute (Return a) ∷
    Execute (While a b) ∷
    expr (Assign a b) ∷
    binary Divide a b ∷
    binary Minus a b ∷
    binary Modulo a b ∷
    binary Multiply a b ∷
    binary Plus a b ∷
    binary And a b ∷
    binary Or a b ∷
    binary Equals a b ∷
    binary NotEquals a b ∷
    binary Greater a b ∷
    binary GreaterOrEquals a b ∷
    binary Lower a b ∷
    binary LowerOrEquals a b ∷
    expr (Unary Negate a) ∷
    expr (Unary Not a) ∷
    expr ReadInt ∷
    expr ReadFloat ∷
    expr (Cast a b) ∷
    expr (InstanceOf a b) ∷
    expr (MethodCall a b c) ∷
    expr (New a) ∷
    expr This ∷
    expr (IntLiteral w) ∷
    expr (FloatLiteral w) ∷
    expr (StringLiteral w) ∷
    expr (BooleanLiteral (w == 1)) ∷
    expr NullLiteral ∷
    expr (Selection a b) ∷
    expr (Identifier w) ∷
    []

abbrev pub head_of : ℕ → ℕ → ℕ → ℕ → ℕ → ℕ → ℕ → View
head_of k w a b c d e = slice_index_or (heads w a b c d e) k Nothing

-- the children's parts follow the node in turn
unfoldable pub view : List Node → ℕ → View
view ns p =
    let e = end_of ns p in
    let b = past ns e (p + 1) in
    let c = past ns e b in
    head_of (node_at ns p).kind (node_at ns p).word (p + 1) b c (past ns e c) e

-- the children that a view names, in order, each with its class and its place; the elements of a List are not among them
abbrev pub named_expression : Expression → List (Class × ℕ)
named_expression (Assign a b) = (Target, a) ∷ (AnyExpression, b) ∷ []
named_expression (Binary o a b) = (AnyExpression, a) ∷ (AnyExpression, b) ∷ []
named_expression (Unary o a) = (AnyExpression, a) ∷ []
named_expression ReadInt = []
named_expression ReadFloat = []
named_expression (Cast a b) = (Name, a) ∷ (AnyExpression, b) ∷ []
named_expression (InstanceOf a b) = (AnyExpression, a) ∷ (Name, b) ∷ []
named_expression (MethodCall a b c) = (AnyExpression, a) ∷ (Name, b) ∷ (ListOf Expressions, c) ∷ []
named_expression (New a) = (Name, a) ∷ []
named_expression This = []
named_expression (IntLiteral w) = []
named_expression (FloatLiteral w) = []
named_expression (StringLiteral w) = []
named_expression (BooleanLiteral w) = []
named_expression NullLiteral = []
named_expression (Selection a b) = (AnyExpression, a) ∷ (Name, b) ∷ []
named_expression (Identifier w) = []

abbrev pub named_instruction : Instruction → List (Class × ℕ)
named_instruction (Print a) = (ListOf Expressions, a) ∷ []
named_instruction (Println a) = (ListOf Expressions, a) ∷ []
named_instruction (IfThenElse a b c) = (AnyExpression, a) ∷ (ListOf Instructions, b) ∷ (ListOf Instructions, c) ∷ []
named_instruction NoOperation = []
named_instruction (Return a) = (AnyExpression, a) ∷ []
named_instruction (While a b) = (AnyExpression, a) ∷ (ListOf Instructions, b) ∷ []
named_instruction (Evaluate x) = named_expression x

abbrev pub named : View → List (Class × ℕ)
named (Program a b) = (ListOf Classes, a) ∷ (MainBlock, b) ∷ []
named (Elements a e) = []
named (DeclClass a b c d) = (Name, a) ∷ (Name, b) ∷ (ListOf Fields, c) ∷ (ListOf Methods, d) ∷ []
named (DeclField v a b c) = (Name, a) ∷ (Name, b) ∷ (Initializer, c) ∷ []
named (DeclMethod a b c d) = (Name, a) ∷ (Name, b) ∷ (ListOf Params, c) ∷ (Body, d) ∷ []
named (DeclParam a b) = (Name, a) ∷ (Name, b) ∷ []
named (DeclVar a b c) = (Name, a) ∷ (Name, b) ∷ (Initializer, c) ∷ []
named (Initialization a) = (AnyExpression, a) ∷ []
named NoInitialization = []
named (MethodBody a b) = (ListOf Vars, a) ∷ (ListOf Instructions, b) ∷ []
named (Main a b) = (ListOf Vars, a) ∷ (ListOf Instructions, b) ∷ []
named EmptyMain = []
named (Execute i) = named_instruction i
named Nothing = []

-- such children follow one another from q on, each at its place, and the last ends at e
abbrev pub Stand : List Node → ℕ → ℕ → List (Class × ℕ) → Type 0
Stand ns e q [] = q ≡ e
Stand ns e q ((c, a) ∷ xs) = (a ≡ q) × Child ns e c a × Stand ns e (end_of ns a) xs

-- the same view k places further on
abbrev pub moved_expression : ℕ → Expression → Expression
moved_expression k (Assign a b) = Assign (k + a) (k + b)
moved_expression k (Binary o a b) = Binary o (k + a) (k + b)
moved_expression k (Unary o a) = Unary o (k + a)
moved_expression k ReadInt = ReadInt
moved_expression k ReadFloat = ReadFloat
moved_expression k (Cast a b) = Cast (k + a) (k + b)
moved_expression k (InstanceOf a b) = InstanceOf (k + a) (k + b)
moved_expression k (MethodCall a b c) = MethodCall (k + a) (k + b) (k + c)
moved_expression k (New a) = New (k + a)
moved_expression k This = This
moved_expression k (IntLiteral w) = IntLiteral w
moved_expression k (FloatLiteral w) = FloatLiteral w
moved_expression k (StringLiteral w) = StringLiteral w
moved_expression k (BooleanLiteral w) = BooleanLiteral w
moved_expression k NullLiteral = NullLiteral
moved_expression k (Selection a b) = Selection (k + a) (k + b)
moved_expression k (Identifier w) = Identifier w

abbrev pub moved_instruction : ℕ → Instruction → Instruction
moved_instruction k (Print a) = Print (k + a)
moved_instruction k (Println a) = Println (k + a)
moved_instruction k (IfThenElse a b c) = IfThenElse (k + a) (k + b) (k + c)
moved_instruction k NoOperation = NoOperation
moved_instruction k (Return a) = Return (k + a)
moved_instruction k (While a b) = While (k + a) (k + b)
moved_instruction k (Evaluate x) = Evaluate (moved_expression k x)

abbrev pub moved : ℕ → View → View
moved k (Program a b) = Program (k + a) (k + b)
moved k (Elements a e) = Elements (k + a) (k + e)
moved k (DeclClass a b c d) = DeclClass (k + a) (k + b) (k + c) (k + d)
moved k (DeclField v a b c) = DeclField v (k + a) (k + b) (k + c)
moved k (DeclMethod a b c d) = DeclMethod (k + a) (k + b) (k + c) (k + d)
moved k (DeclParam a b) = DeclParam (k + a) (k + b)
moved k (DeclVar a b c) = DeclVar (k + a) (k + b) (k + c)
moved k (Initialization a) = Initialization (k + a)
moved k NoInitialization = NoInitialization
moved k (MethodBody a b) = MethodBody (k + a) (k + b)
moved k (Main a b) = Main (k + a) (k + b)
moved k EmptyMain = EmptyMain
moved k (Execute i) = Execute (moved_instruction k i)
moved k Nothing = Nothing
