use Rattle.std.proofs.Common.{ℕ, ◌<◌}
use Rattle.table.specs.Shape.{Sound}
use Rattle.table.specs.Open.{Opens}
use Rattle.table.proofs.shape.check_shape.Given as goal

abbrev pub invariant-loop-at : goal.invariant-loop-at
invariant-loop-at l = ((q : ℕ) → q < l.at → Sound l.nodes q) × Opens l.nodes l.at l.parts.ends.items
