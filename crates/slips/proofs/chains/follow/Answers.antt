use Rattle.std.proofs.Common.{◌≡◌, ◌<◌, length, arith, rules}
use Rattle.slips.proofs.Walking.{after_within, after_more}
use Rattle.slips.proofs.chains.follow.Goals as goal

there : (c : goal.In-loop-unread) → c.loop.at < length c.args.slots.now
there c = omega (arith, c.loop.invariant, after_within c.args.slots.now c.args.links c.args.first c.loop.counter c.loop-test.true c.requires)

pub offset_bounds-slots-at : goal.offset_bounds-slots-at
offset_bounds-slots-at c = let h = there c in search rules

pub bounds-slots-at : goal.bounds-slots-at
bounds-slots-at c = there c

pub loop-preserved : goal.loop-preserved
loop-preserved c = let more = after_more c.args.slots.now c.loop.counter c.args.first in grind arith

pub returns : goal.returns
returns c = let all : c.loop.counter ≡ c.args.links = omega arith in grind arith
