-- What pass three makes of an expression is settled: one type with its attributes, or one broken rule, and never both.
use Rattle.std.specs.Prelude.{◌≡◌, ℕ, List}
use Rattle.table.specs.declared.kinds.Node.{Node}
use Rattle.values.specs.declared.types.«Type».{«Type» as Ty}
use Rattle.grammar.specs.declared.fault.RuleFault.{RuleFault}
use Rattle.typing.specs.Settings.{Setting, Log}
use Rattle.typing.specs.Expressions.{Expr, BreaksExpr}

pub record SettledExpr (T : List Node) (x : Setting) (p : ℕ) : Type 0 where
  pub one_type : (t u : Ty) (V W : Log) → Expr T x p t V → Expr T x p u W → t ≡ u
  pub one_log : (t u : Ty) (V W : Log) → Expr T x p t V → Expr T x p u W → V ≡ W
  pub one_fault : (f g : RuleFault) → BreaksExpr T x p f → BreaksExpr T x p g → f ≡ g
  pub one_way : (t : Ty) (W : Log) (f : RuleFault) → Expr T x p t W → BreaksExpr T x p f → ⊥

-- so it is for every expression, at every place and in every setting
abbrev pub Settles : Type 0
Settles = (T : List Node) (x : Setting) (p : ℕ) → SettledExpr T x p
