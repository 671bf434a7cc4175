use Rattle.std.proofs.Common.{arith, rules}
use Rattle.store.proofs.Absent.{absent}
use Rattle.rows.proofs.Found.{lies_within, cell_some, cell_written}
use Rattle.rows.proofs.rows.RowsStore.write.Goals as goal

pub returns-in_err-place-clause-after : goal.returns-in_err-place-clause-after
returns-in_err-place-clause-after g c = grind (arith, absent)

pub index_mut-requires : goal.index_mut-requires
index_mut-requires g c = search (rules, lies_within)

pub returns-clause-before : goal.returns-clause-before
returns-clause-before g c = grind (arith, cell_some)

pub returns-clause-after : goal.returns-clause-after
returns-clause-after g c = grind (arith, cell_written)
