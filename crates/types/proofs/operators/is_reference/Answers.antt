use Rattle.std.proofs.Common.{sym, subst, inl, inr}
use Rattle.table.proofs.Answered.{said_yes}
use Rattle.types.specs.Operators.{Reference}
use Rattle.types.proofs.operators.is_reference.Goals as goal

pub returns-in-Class : goal.returns-in-Class
returns-in-Class c = said_yes (elim c.in-Class.is [ inl p ↦ subst Reference (sym p.1) Reference.class | inr e ↦ subst Reference (sym e) Reference.null ])
