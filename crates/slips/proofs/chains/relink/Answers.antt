use Rattle.std.proofs.Common.{◌≢◌, ap, ◌∙◌, arith, get_or-set_other, get_or-set_same, below_more}
use Rattle.slips.specs.declared.slot.Slot.{Slot}
use Rattle.slips.specs.Chains.{no_slot}
use Rattle.slips.proofs.chains.relink.Goals as goal

pub loop-i-preserved : goal.loop-i-preserved
loop-i-preserved c =
    let i = c.loop-i.i in
    let ss = c.loop-i.slots in
    below_more _ _
    (λ k h. let ne : k ≢ i = omega arith in ap (λ (s : Slot). s.next) (get_or-set_other ss i k _ no_slot ne) ∙ c.loop-i.invariant k h)
    (ap (λ (s : Slot). s.next) (get_or-set_same ss i _ no_slot (omega arith)))

pub returns : goal.returns
returns c = λ k h. c.loop-i.invariant k (omega arith)
