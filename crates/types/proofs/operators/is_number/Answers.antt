use Rattle.std.proofs.Common.{sym, subst, inl, inr}
use Rattle.table.proofs.Answered.{said_yes}
use Rattle.types.specs.Operators.{Number}
use Rattle.types.proofs.operators.is_number.Goals as goal

pub returns-in-Int : goal.returns-in-Int
returns-in-Int c = said_yes (elim c.in-Int.is [ inl e ↦ subst Number (sym e) Number.int | inr e ↦ subst Number (sym e) Number.float ])
