use Rattle.std.proofs.Common.{length}
use Rattle.table.specs.Open.{Opens}
use Rattle.table.proofs.open.OpenParts.enter.Given as goal

abbrev pub invariant-loop-self : goal.invariant-loop-self
invariant-loop-self l = Opens l.nodes l.at l.self.ends.items

abbrev pub decreases-loop-self : goal.decreases-loop-self
decreases-loop-self l = length l.self.ends.items
