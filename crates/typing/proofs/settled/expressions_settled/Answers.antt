use Rattle.typing.proofs.settled.expressions_settled.Goals as goal
use Rattle.typing.proofs.SettlesExpressions.{settled_expr}

pub returns : goal.returns
returns c = settled_expr
