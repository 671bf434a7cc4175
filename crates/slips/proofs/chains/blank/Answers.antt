use Rattle.std.proofs.Common.{◌≡◌, ◌<◌, length, arith, rules}
use Rattle.values.specs.declared.value.Value.TheVariants.{Null}
use Rattle.slips.specs.Chains.{after, chain}
use Rattle.slips.proofs.Walking.{after_within, after_more, chain_more}
use Rattle.slips.proofs.Writing.{next_same, nulled_links, nulled_push}
use Rattle.slips.proofs.chains.blank.Goals as goal

there : (c : goal.In-loop) → c.loop.next < length c.loop.slots
there c = omega (arith, c.loop.invariant.0, after_within c.args.slots.now c.args.count c.args.first c.loop.counter c.loop-test.true c.requires)

pub offset_bounds-slots-next : goal.offset_bounds-slots-next
offset_bounds-slots-next c = let h = there c in search rules

pub bounds-slots-next : goal.bounds-slots-next
bounds-slots-next c = there c

pub loop-preserved : goal.loop-preserved
loop-preserved c =
    let ss = c.args.slots.now in
    let ts = c.loop.slots in
    let xs = chain ss c.loop.counter c.args.first in
    let a = after ss c.loop.counter c.args.first in
    let links = nulled_links ss xs c.loop.next in
    let kept = next_same ts c.loop.next Null c.loop.next in
    let more = after_more ss c.loop.counter c.args.first in
    let longer = chain_more ss c.loop.counter c.args.first in
    let pushed = nulled_push ss xs a in
    (grind arith, grind arith)

pub returns : goal.returns
returns c = let all : c.loop.counter ≡ c.args.count = omega arith in record { end = grind arith; nulls = grind arith }
