use Rattle.std.proofs.Common.{rules}
use Rattle.grammar.specs.PassTwo.{param}
use Rattle.grammar.specs.PassTwo.BreaksParam.{no_type, void}
use Rattle.grammar.proofs.Exits.{exit}
use Rattle.grammar.proofs.methods.param.Goals as goal

pub returns-in_err-of : goal.returns-in_err-of
returns-in_err-of c = search (rules, exit, no_type)

pub returns-then-eq : goal.returns-then-eq
returns-then-eq c = search (rules, void, c.at.ensures)

pub returns : goal.returns
returns c = param c.param-parts.ensures.view c.in_ok-of.ensures (search rules)
