use Rattle.std.proofs.Common.{◌≡◌, List, arith}
use Rattle.std.specs.Option.{unwrap_or}
use Rattle.table.specs.declared.kinds.Node.{Node}
use Rattle.table.specs.declared.shape.ShapeFault.{ShapeFault}
use Rattle.table.specs.Shape.{Refused, refusal, place_of}
use Rattle.table_c.specs.Told.{Told, accepted, refused}
use Rattle.table_c.specs.declared.Answer.{Answer}
use Rattle.table_c.proofs.table_check_shape.Goals as goal

-- an answer with a refusal's number and position tells that refusal
told : (ns : List Node) (f : ShapeFault) (a : Answer) → Refused ns f → a.number ≡ refusal f → a.at ≡ unwrap_or (place_of f) 0 → Told ns a
told ns f a r number at = rw (number, at) (refused f r)

pub returns-in-Ok : goal.returns-in-Ok
returns-in-Ok c = accepted c.in-Ok.ensures.verdict

pub returns-in-Err : goal.returns-in-Err
returns-in-Err c = told _ _ _ c.in-Err.ensures.verdict (grind arith) (grind arith)
