use Rattle.std.proofs.Common.{arith}
use Rattle.slips.proofs.Found.{cell_some}
use Rattle.slips.proofs.operations.SlipsStore.read.Goals as goal

pub returns : goal.returns
returns g c = grind (arith, cell_some c.args.self.now c.args.record c.args.cell c.in_ok-place_of.field-0 c.in_ok-place_of.ensures.is)
