use Rattle.std.proofs.Common.{arith, rules}
use Rattle.rows.proofs.Found.{lies_within, cell_some}
use Rattle.rows.proofs.rows.RowsStore.read.Goals as goal

pub index-requires : goal.index-requires
index-requires g c = search (rules, lies_within)

pub returns : goal.returns
returns g c = grind (arith, cell_some)
