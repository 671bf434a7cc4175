use Rattle.std.proofs.Common.{rules}
use Rattle.std.proofs.lemmas.Int.{wraps}
use Rattle.values.proofs.operators.unary.Goals as goal

pub returns-in-Minus-Int : goal.returns-in-Minus-Int
returns-in-Minus-Int c = search (rules, wraps)
