use Rattle.std.proofs.Common.{◌+◌, ◌-◌, ◌*◌}
use Rattle.table.specs.Shape.{node_at}
use Rattle.parts.specs.Walk.{Over}
use Rattle.typing.specs.Checking.{batch}
use Rattle.typing.proofs.Arguments.{Passed}
use Rattle.typing.proofs.checker.Checker.+expressions.Given as goal

abbrev pub decreases-arguments : goal.decreases-arguments
decreases-arguments l = 8 * (l.list.end - l.list.first) + 4

abbrev pub invariant-arguments-loop-of : goal.invariant-arguments-loop-of
invariant-arguments-loop-of l = record {
  passed : Passed l.initial.self l.p l.fn.list.end l.fn.signature l.fn.list.first l.self l.of-index l.positions.next;
  over : Over (batch l.initial.self) l.fn.list.end l.positions;
}

abbrev pub decreases-assign : goal.decreases-assign
decreases-assign l = 8 * (node_at (batch l.self.now) l.p).size + 1

abbrev pub decreases-binary : goal.decreases-binary
decreases-binary l = 8 * (node_at (batch l.self.now) l.p).size + 1

abbrev pub decreases-cast : goal.decreases-cast
decreases-cast l = 8 * (node_at (batch l.self.now) l.p).size + 1

abbrev pub decreases-expr : goal.decreases-expr
decreases-expr l = 8 * (node_at (batch l.self.now) l.p).size + 2

abbrev pub decreases-instance_of : goal.decreases-instance_of
decreases-instance_of l = 8 * (node_at (batch l.self.now) l.p).size + 1

abbrev pub decreases-lvalue : goal.decreases-lvalue
decreases-lvalue l = 8 * (node_at (batch l.self.now) l.p).size + 2

abbrev pub decreases-method_call : goal.decreases-method_call
decreases-method_call l = 8 * (node_at (batch l.self.now) l.p).size + 1

abbrev pub decreases-rvalue : goal.decreases-rvalue
decreases-rvalue l = 8 * (node_at (batch l.self.now) l.p).size + 3

abbrev pub decreases-selection : goal.decreases-selection
decreases-selection l = 8 * (node_at (batch l.self.now) l.p).size + 1

abbrev pub decreases-unary : goal.decreases-unary
decreases-unary l = 8 * (node_at (batch l.self.now) l.p).size + 1
