use Rattle.std.proofs.Common.{◌≡◌, ◌≤◌, sym, subst, inl, inr, rules, arith}
use Rattle.std.specs.Iterator.Adapters.{zip_first}
use Rattle.std.proofs.lemmas.Result.{MatchResult-at_ok, MatchResult-at_err}
use Rattle.table.specs.declared.kinds.Class.TheVariants.{OneClass}
use Rattle.parts.proofs.Walks.{turn, turn_next, walked}
use Rattle.library.specs.Contents.{contents}
use Rattle.library.proofs.Untouched.{untouched_trans}
use Rattle.grammar.specs.declared.fault.Pass.TheVariants.{Two}
use Rattle.grammar.specs.declared.fault.InClass.{InClass}
use Rattle.grammar.specs.PassTwo.{BreaksTwo}
use Rattle.grammar.specs.PassTwo.BreaksTwo.{here}
use Rattle.grammar.proofs.Exits.{exit, mapped, around_class}
use Rattle.grammar.proofs.PassesTwo.{Completed, completed_more, completed_all}
use Rattle.grammar.proofs.SettlesTwo.{settled_two}
use Rattle.grammar.proofs.pass_two.complete_classes.Goals as goal

pub class-requires : goal.class-requires
class-requires c =
    let i = c.loop-p.invariant in
    record { class = (turn_next _ _ _ i.over OneClass _ _ _ i.completed.numbered.row c.in-Some.ensures.steps.0).here }

pub complete_class-requires-clause-class : goal.complete_class-requires-clause-class
complete_class-requires-clause-class c =
    let i = c.loop-p.invariant in
    (turn_next _ _ _ i.over OneClass _ _ _ i.completed.numbered.row c.in-Some.ensures.steps.0).here

pub returns-in_err-map_err : goal.returns-in_err-map_err
returns-in_err-map_err c =
    let T = c.args.batch.nodes.now in
    let w = contents c.args.library.now in
    let v = contents c.loop-p.library in
    let i = c.loop-p.invariant.completed in
    let g = c.in-Some.ensures.steps in
    let t = turn _ _ _ c.loop-p.invariant.over _ _ g.0 in
    let a : InClass = record { pass = Two; class = c.symbol.result } in
    let m = mapped _ _ _ c.complete_class.result c.map_err.result c.map_err.ensures.cases c.complete_class.ensures.rules in
    let y = c.in_err-map_err.field-0.0 in
    let o = MatchResult-at_err _ _ y c.in_err-map_err.was m in
    let j = subst (Completed T c.args.kept c.args.list.end c.args.number c.args.list.first w v c.in-Some.class) t.at (rw (sym g.1.0) at i) in
    let b = j.bad _ (here t.before c.class.ensures.view o.1) in
    let u : y ≡ (a, o.0) = search rules in
    record {
      rules = exit _ _ c.from_residual.result _ c.from_residual.ensures.1 (around_class (BreaksTwo T c.args.kept c.args.list.end w c.args.number c.args.list.first) y Two _ _ _ u c.symbol.ensures b);
      settled = settled_two _ _ _ _ _ _;
      untouched = untouched_trans _ _ _ _ w v (contents c.complete_class.new.library) j.later_number j.longer j.untouched c.complete_class.ensures.untouched;
    }

pub loop-p-preserved : goal.loop-p-preserved
loop-p-preserved c =
    let T = c.args.batch.nodes.now in
    let w = contents c.args.library.now in
    let v = contents c.loop-p.library in
    let i = c.loop-p.invariant.completed in
    let g = c.in-Some.ensures.steps in
    let t = turn _ _ _ c.loop-p.invariant.over _ _ g.0 in
    let m = mapped _ _ _ c.complete_class.result c.map_err.result c.map_err.ensures.cases c.complete_class.ensures.rules in
    let d = MatchResult-at_ok _ _ c.in_ok-map_err.field-0 c.in_ok-map_err.was m in
    let j = subst (Completed T c.args.kept c.args.list.end c.args.number c.args.list.first w v c.in-Some.class) t.at (rw (sym g.1.0) at i) in
    let k = completed_more _ _ _ _ _ _ v (contents c.complete_class.new.library) _ _ t.before d c.complete_class.ensures.untouched c.complete_class.ensures.few j in
    record { over = t.over; completed = subst (Completed T c.args.kept c.args.list.end c.args.number c.args.list.first w (contents c.complete_class.new.library) _) t.next (rw (sym g.1.1) at k) }

pub returns : goal.returns
returns c =
    let i = c.loop-p.invariant in
    let n = c.in-None.ensures.steps in
    let h : c.args.list.end ≤ (zip_first c.loop-p.p-iterator).next = elim n [ inl x ↦ walked _ _ _ i.over x.1.0 | inr x ↦ absurd (omega (arith, x.1.0, i.completed.numbered.known, c.loop-p.library.few_classes, c.loop-p.library.classes.ok.0)) ] in
    record { rules = completed_all _ _ _ _ _ _ _ _ _ h i.completed; settled = settled_two _ _ _ _ _ _; untouched = i.completed.untouched }
