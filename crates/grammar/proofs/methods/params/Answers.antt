use Rattle.std.proofs.Common.{sym, ap, ◌∙◌, subst}
use Rattle.parts.specs.Walk.{Over}
use Rattle.table.specs.declared.kinds.Class.TheVariants.{OneParam}
use Rattle.parts.proofs.Walks.{turn, turn_next, walked}
use Rattle.grammar.specs.PassTwo.BreaksParams.{here}
use Rattle.grammar.proofs.Exits.{exit}
use Rattle.grammar.proofs.Params.{listed_none, listed_at, listed_room, listed_more, listed_all}
use Rattle.grammar.proofs.methods.params.Goals as goal

pub loop-p-init : goal.loop-p-init
loop-p-init c =
    let a = c.into_iter-p-iterator.ensures.into_iter_gives in
    let b = c.positions-p-items.ensures in
    record { over = subst (Over _ _) (sym a) b.over; listed = listed_at _ _ _ _ _ _ _ (sym (ap (λ s. s.next) a ∙ b.next)) (listed_none _ _ _ _ _ c.empty-types.ensures c.requires) }

pub param-requires : goal.param-requires
param-requires c =
    let i = c.loop-p.invariant in
    (turn_next _ _ _ i.over OneParam _ _ _ i.listed.row c.in-Some.ensures.steps).here

pub returns-in_err-param : goal.returns-in_err-param
returns-in_err-param c =
    let i = c.loop-p.invariant in
    let t = turn _ _ _ i.over _ _ c.in-Some.ensures.steps in
    exit _ _ c.from_residual.result _ c.from_residual.ensures.1 ((listed_at _ _ _ _ _ _ _ t.at i.listed).bad _ (here t.before c.in_err-param.ensures))

pub with-types-requires : goal.with-types-requires
with-types-requires c =
    let i = c.loop-p.invariant in
    let t = turn _ _ _ i.over _ _ c.in-Some.ensures.steps in
    listed_room _ _ _ _ _ _ t.before (listed_at _ _ _ _ _ _ _ t.at i.listed)

pub loop-p-preserved : goal.loop-p-preserved
loop-p-preserved c =
    let i = c.loop-p.invariant in
    let t = turn _ _ _ i.over _ _ c.in-Some.ensures.steps in
    let l = listed_at _ _ _ _ _ _ _ t.at i.listed in
    record { over = t.over; listed = listed_at _ _ _ _ _ _ _ t.next (listed_more _ _ _ _ _ _ _ _ t.before c.in_ok-param.ensures l (c.with-types.ensures l.types l.made)) }

pub returns : goal.returns
returns c =
    let i = c.loop-p.invariant in
    (i.listed.types, i.listed.made, listed_all _ _ _ _ _ _ (walked _ _ _ i.over c.in-None.ensures.steps.0) i.listed)
