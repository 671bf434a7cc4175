use Rattle.std.proofs.Common.{◌≡◌, arith, rules}
use Rattle.std.proofs.lemmas.Result.{MatchResult-at_ok, MatchResult-at_err}
use Rattle.parts.specs.Parts.{symbol_at}
use Rattle.parts.proofs.Walks.{turn, walked}
use Rattle.library.proofs.Kept.{placed_in}
use Rattle.grammar.proofs.Exits.{exit, mapped}
use Rattle.grammar.proofs.Gathered.{gathered_here, gathered_at, gathered_more, gathered_broken, gathered_all, gathered_end}
use Rattle.grammar.proofs.members.declare_members.Goals as goal

pub identifier-place-requires : goal.identifier-place-requires
identifier-place-requires g c =
    let i = c.loop-p.invariant in
    let t = turn _ _ _ i.over _ _ c.in-Some.ensures.steps in
    gathered_here _ _ _ _ _ _ _ _ _ _ _ _ _ _ t.before (gathered_at _ _ _ _ _ _ _ _ _ _ _ _ _ _ _ t.at i.gathered)

pub declare_member-requires-clause-class : goal.declare_member-requires-clause-class
declare_member-requires-clause-class g c =
    let i = c.loop-p.invariant in
    let t = turn _ _ _ i.over _ _ c.in-Some.ensures.steps in
    gathered_here _ _ _ _ _ _ _ _ _ _ _ _ _ _ t.before (gathered_at _ _ _ _ _ _ _ _ _ _ _ _ _ _ _ t.at i.gathered)

pub returns-in_err-map_err-clause-rules : goal.returns-in_err-map_err-clause-rules
returns-in_err-map_err-clause-rules g c =
    let i = c.loop-p.invariant in
    let t = turn _ _ _ i.over _ _ c.in-Some.ensures.steps in
    let y = c.in_err-map_err.field-0.0 in
    let h = MatchResult-at_err _ _ y c.in_err-map_err.was (mapped _ _ _ c.declare_member.result c.map_err.result c.map_err.ensures.cases c.declare_member.ensures) in
    let m : y ≡ (symbol_at c.args.site.batch.nodes.now c.identifier-place.result, h.0) = let k = h.2 in search rules in
    exit _ _ c.from_residual.result _ c.from_residual.ensures.1 (gathered_broken _ _ _ _ _ _ _ _ _ _ _ _ (placed_in c.args.library.now) _ _ _ t.before c.member_count-first.ensures (gathered_at _ _ _ _ _ _ _ _ _ _ _ _ _ _ _ t.at i.gathered) _ _ y m c.identifier-place.ensures.named h.1.0)

pub loop-p-preserved : goal.loop-p-preserved
loop-p-preserved g c =
    let i = c.loop-p.invariant in
    let t = turn _ _ _ i.over _ _ c.in-Some.ensures.steps in
    let h = MatchResult-at_ok _ _ c.in_ok-map_err.field-0 c.in_ok-map_err.was (mapped _ _ _ c.declare_member.result c.map_err.result c.map_err.ensures.cases c.declare_member.ensures) in
    record {
      over = t.over;
      gathered = gathered_at _ _ _ _ _ _ _ _ _ _ _ _ _ _ _ t.next (gathered_more _ _ _ _ _ _ _ _ _ _ _ _ (placed_in c.args.library.now) _ _ _ t.before c.member_count-first.ensures (gathered_at _ _ _ _ _ _ _ _ _ _ _ _ _ _ _ t.at i.gathered) _ h.0 h.1 h.2 h.3);
    }

pub returns-clause-rules : goal.returns-clause-rules
returns-clause-rules g c =
    let i = c.loop-p.invariant in
    gathered_all _ _ _ _ _ _ _ _ _ _ _ _ _ _ (walked _ _ _ i.over c.in-None.ensures.steps.0) i.gathered

pub returns-clause-few : goal.returns-clause-few
returns-clause-few g c =
    let i = c.loop-p.invariant in
    omega (arith, i.gathered.few, gathered_end _ _ _ _ _ _ _ _ _ _ _ _ _ _ (walked _ _ _ i.over c.in-None.ensures.steps.0) i.gathered)
