use Rattle.std.proofs.Common.{sym, ap, ◌∙◌, arith}
use Rattle.std.proofs.lemmas.Option.{slice_get_past}
use Rattle.store.specs.Numbers.{by_number}
use Rattle.slips.specs.Chains.{chain, slot_in}
use Rattle.slips.specs.Counted.{length_chain}
use Rattle.slips.proofs.Walking.{nth_chain, front_within, after_within}
use Rattle.slips.proofs.Holding.{head_within}
use Rattle.slips.proofs.slips.Slips.place_of.Goals as goal

pub returns-then-head-cell-clause-is : goal.returns-then-head-cell-clause-is
returns-then-head-cell-clause-is g c =
    let ss = c.args.self.now.slots.items in
    let h = c.in_ok-head.head in
    sym (slice_get_past (chain ss h.count h.first) c.args.cell (omega (arith, length_chain ss h.count h.first))) ∙ ap (λ o. slot_in ss o c.args.cell) (c.in_ok-head.ensures ∙ ap (λ hs. by_number hs c.args.record) c.deref.ensures.value)

pub follow-requires : goal.follow-requires
follow-requires g c =
    let s = c.args.self.now in
    let h = c.in_ok-head.head in
    let there = head_within s.slots.items s.heads.items s.free s.cells_left s.chains c.args.record h (c.in_ok-head.ensures ∙ ap (λ hs. by_number hs c.args.record) c.deref.ensures.value) in
    rw c.deref-2.ensures.value (front_within s.slots.items h.count h.first _ (omega arith) there)

pub returns-clause-is : goal.returns-clause-is
returns-clause-is g c =
    let ss = c.args.self.now.slots.items in
    let h = c.in_ok-head.head in
    let walked = nth_chain ss h.count h.first c.args.cell c.if-head-cell.false in
    let held = ap (λ o. slot_in ss o c.args.cell) (c.in_ok-head.ensures ∙ ap (λ hs. by_number hs c.args.record) c.deref.ensures.value) in
    grind arith

pub returns-clause-there : goal.returns-clause-there
returns-clause-there g c =
    let s = c.args.self.now in
    let h = c.in_ok-head.head in
    let there = head_within s.slots.items s.heads.items s.free s.cells_left s.chains c.args.record h (c.in_ok-head.ensures ∙ ap (λ hs. by_number hs c.args.record) c.deref.ensures.value) in
    let end = after_within s.slots.items h.count h.first c.args.cell c.if-head-cell.false there in
    grind arith
