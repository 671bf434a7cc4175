use Rattle.std.proofs.Common.{rules}
use Rattle.std.proofs.lemmas.Int.{wraps}
use Rattle.values.proofs.Wraps.{quotient_wraps}
use Rattle.values.proofs.ints.on_ints.Goals as goal

pub returns-in-Plus : goal.returns-in-Plus
returns-in-Plus c = search (rules, wraps)

pub returns-in-Minus : goal.returns-in-Minus
returns-in-Minus c = search (rules, wraps)

pub returns-in_ok-divisor-in-Divide : goal.returns-in_ok-divisor-in-Divide
returns-in_ok-divisor-in-Divide c = search (rules, quotient_wraps)
