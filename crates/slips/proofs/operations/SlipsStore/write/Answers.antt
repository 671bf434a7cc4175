use Rattle.std.proofs.Common.{arith}
use Rattle.store.proofs.Absent.{absent}
use Rattle.slips.proofs.Found.{cell_none, cell_some, still_linked, cell_written}
use Rattle.slips.proofs.operations.SlipsStore.write.Goals as goal

pub returns-in_err-at-clause-before : goal.returns-in_err-at-clause-before
returns-in_err-at-clause-before g c = grind (arith, cell_none c.args.self.now c.args.record c.args.cell c.in_err-at.ensures.is)

pub returns-in_err-at-clause-after : goal.returns-in_err-at-clause-after
returns-in_err-at-clause-after g c = grind (arith, cell_none c.args.self.now c.args.record c.args.cell c.in_err-at.ensures.is, absent)

pub invariant_of-self-clause-chains : goal.invariant_of-self-clause-chains
invariant_of-self-clause-chains g c = still_linked c.args.self.now c.args.record c.args.cell c.in_ok-at.at c.in_ok-at.ensures.is c.index_mut.result.now c.replace.new.dest c.index_mut.ensures.value

pub returns-clause-before : goal.returns-clause-before
returns-clause-before g c = grind (arith, cell_some c.args.self.now c.args.record c.args.cell c.in_ok-at.at c.in_ok-at.ensures.is)

pub returns-clause-after : goal.returns-clause-after
returns-clause-after g c =
    let written = cell_written c.args.self.now c.args.record c.args.cell c.in_ok-at.at c.in_ok-at.ensures.is c.index_mut.result.now c.args.value c.index_mut.ensures.value in
    grind arith
