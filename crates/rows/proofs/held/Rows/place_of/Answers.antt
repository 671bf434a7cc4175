use Rattle.std.proofs.Common.{arith}
use Rattle.rows.proofs.Found.{absent_by, stands_by, cell_none, value_absent}
use Rattle.rows.proofs.held.Rows.place_of.Goals as goal

pub returns-in_err-head : goal.returns-in_err-head
returns-in_err-head g c = rw c.from_residual.ensures (cell_none c.args.self.now c.args.record c.args.cell (absent_by c.args.self.now c.args.record _ c.deref.ensures.value c.in_err-head.ensures))

pub returns-then-cell-from : goal.returns-then-cell-from
returns-then-cell-from g c =
    let stands = stands_by c.args.self.now c.args.record c.in_ok-head.head _ c.deref.ensures.value c.in_ok-head.ensures in
    value_absent c.args.self.now c.args.record c.in_ok-head.head stands c.args.cell (omega arith)

pub returns : goal.returns
returns g c =
    let stands = stands_by c.args.self.now c.args.record c.in_ok-head.head _ c.deref.ensures.value c.in_ok-head.ensures in
    record { head = c.in_ok-head.head; stands = stands; inside = omega arith; isa = omega arith }
