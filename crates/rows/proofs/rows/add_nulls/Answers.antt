use Rattle.std.proofs.Common.{vec_items, arith}
use Rattle.rows.proofs.Cuts.{nulls_more}
use Rattle.rows.proofs.rows.add_nulls.Goals as goal

pub loop-preserved : goal.loop-preserved
loop-preserved c = (nulls_more (vec_items c.args.cells.now) _ _ c.loop.counter c.loop.invariant.0 c.push_reserved.ensures.items, omega arith, omega arith)
