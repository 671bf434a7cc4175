use Rattle.std.proofs.Common.{◌≡◌, take}
use Rattle.store.specs.Model.{cleared}
use Rattle.store.specs.History.{played}
use Rattle.store.proofs.history.replay.Given as goal

abbrev pub invariant-loop-change : goal.invariant-loop-change
invariant-loop-change g l = g.S.Store.model l.store ≡ played (cleared g.S.Store.R g.S.Store.C) (take l.change-index l.changes)
