use Rattle.std.proofs.Common.{◌≡◌}
use Rattle.slips.specs.Chains.{after}
use Rattle.slips.proofs.chains.follow.Given as goal

abbrev pub invariant-loop : goal.invariant-loop
invariant-loop l = l.at ≡ after l.slots l.counter l.first
