-- What the functions of pass three answer.
use Rattle.std.specs.Prelude.{◌≡◌, ℕ, ◌+◌, ◌<◌, ◌≤◌, List, [], ◌∷◌, length, IfSome, Option, Result, MatchResult}
use Rattle.table.specs.Shape.{Formed, node_at}
use Rattle.table.specs.View.{view, named_expression}
use Rattle.table.specs.declared.kinds.Node.{Node}
use Rattle.table.specs.declared.kinds.Class.{Class}
use Rattle.table.specs.declared.view.Expression.{Expression}
use Rattle.values.specs.declared.types.«Type».{«Type» as Ty}
use Rattle.values.specs.declared.types.«Type».TheVariants.{Void}
use Rattle.parts.specs.Parts.{Is}
use Rattle.library.specs.Contents.{Contents}
use Rattle.grammar.specs.declared.fault.RuleFault.{RuleFault}
use Rattle.typing.specs.Views.{evaluates}
use Rattle.typing.specs.Settings.{Setting, Log, with_log}
use Rattle.typing.specs.Expressions.{Expr, Lvalue, Rvalue, Args, BreaksExpr, BreaksLvalue, BreaksRvalue, BreaksArgs}

-- the batch has its shape and is kept behind n nodes, and the class around is one of the library
pub record Ready (T : List Node) (w : Contents) (n : ℕ) (k : Option ℕ) : Type 0 where
  pub formed : Formed T
  pub kept : n + length T ≤ length w.nodes
  pub class : IfSome k (λ c. c < length w.classes)

-- a node of the class c stands at q, in a part smaller than that of p
pub record Below (T : List Node) (p : ℕ) (c : Class) (q : ℕ) : Type 0 where
  pub is : Is T c q
  pub smaller : (node_at T q).size < (node_at T p).size

-- nodes of these classes stand at these places, each in a part smaller than that of p
abbrev pub AllBelow : List Node → ℕ → List (Class × ℕ) → Type 0
AllBelow T p [] = Unit {0}
AllBelow T p ((c, q) ∷ xs) = Below T p c q × AllBelow T p xs

-- the expression e stands at p, its children in smaller parts
pub record IsExpr (T : List Node) (p : ℕ) (e : Expression) : Type 0 where
  pub within : p < length T
  pub view : view T p ≡ evaluates e
  pub children : AllBelow T p (named_expression e)

-- accepted by a relation J, with the attributes that it gives
pub record Accepted (J : Ty → Log → Type 0) (n : ℕ) (w v : Contents) (t : Ty) : Type 0 where
  pub log : Log
  pub holds : J t log
  pub left : v ≡ with_log n log w

-- broken by a relation B; some attributes may be written
pub record Broken (B : RuleFault → Type 0) (n : ℕ) (w v : Contents) (f : RuleFault) : Type 0 where
  pub breaks : B f
  pub log : Log
  pub left : v ≡ with_log n log w

-- what a check of the expression at p answers, and what it leaves
abbrev pub ExprAnswer : List Node → Setting → ℕ → ℕ → Contents → Contents → Result Ty RuleFault → Type 0
ExprAnswer T x n p w v r = MatchResult r (Accepted (Expr T x p) n w v) (Broken (BreaksExpr T x p) n w v)

abbrev pub LvalueAnswer : List Node → Setting → ℕ → ℕ → Contents → Contents → Result Ty RuleFault → Type 0
LvalueAnswer T x n p w v r = MatchResult r (Accepted (Lvalue T x p) n w v) (Broken (BreaksLvalue T x p) n w v)

-- of a value that goes where t is declared
abbrev pub RvalueAnswer : List Node → Setting → ℕ → Ty → ℕ → Contents → Contents → Result (Unit {0}) RuleFault → Type 0
RvalueAnswer T x n t p w v r = MatchResult r (λ _. Accepted (λ _. Rvalue T x t p) n w v t) (Broken (BreaksRvalue T x t p) n w v)

-- of the arguments from q to e of the call at c, for parameters of the types ts
abbrev pub ArgsAnswer : List Node → Setting → ℕ → ℕ → ℕ → List Ty → ℕ → Contents → Contents → Result (Unit {0}) RuleFault → Type 0
ArgsAnswer T x n c e ts q w v r = MatchResult r (λ _. Accepted (λ _. Args T x e ts q) n w v Void) (Broken (BreaksArgs T x c e ts q) n w v)
