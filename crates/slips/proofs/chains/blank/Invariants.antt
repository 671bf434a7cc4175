use Rattle.std.proofs.Common.{◌≡◌}
use Rattle.slips.specs.Chains.{after, chain, nulled}
use Rattle.slips.proofs.chains.blank.Given as goal

abbrev pub invariant-loop : goal.invariant-loop
invariant-loop l = (l.next ≡ after l.initial.slots l.counter l.first) × (l.slots ≡ nulled l.initial.slots (chain l.initial.slots l.counter l.first))
