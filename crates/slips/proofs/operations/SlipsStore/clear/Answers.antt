use Rattle.std.proofs.Common.{arith}
use Rattle.std.proofs.lemmas.List.{with_items_is}
use Rattle.slips.proofs.Fresh.{fresh_empty}
use Rattle.slips.proofs.operations.SlipsStore.clear.Goals as goal

pub invariant_of-self-clause-chains : goal.invariant_of-self-clause-chains
invariant_of-self-clause-chains g c =
    let s = c.args.self.now in
    let ws = c.relink.new.slots in
    fresh_empty _ ws _ c.C-self.result c.relink.ensures (with_items_is s.slots ws (omega arith)) c.clear.ensures.items (omega arith)
