-- What the exported check tells of a table.
use Rattle.std.specs.Prelude.{List, unwrap_or}
use Rattle.table.specs.declared.kinds.Node.{Node}
use Rattle.table.specs.declared.shape.ShapeFault.{ShapeFault}
use Rattle.table.specs.Shape.{Formed, Refused, refusal, place_of}
use Rattle.table_c.specs.declared.Answer.{Answer}

-- number 0 for a table with its shape; else the number of the refusal, and the faulty position, 0 where there is none
pub data Told (ns : List Node) : Answer → Type 0 where
  accepted : Formed ns → Told ns (record { number = 0; at = 0 })
  refused : (f : ShapeFault) → Refused ns f → Told ns (record { number = refusal f; at = unwrap_or (place_of f) 0 })
