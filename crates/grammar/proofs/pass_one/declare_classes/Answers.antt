use Rattle.std.proofs.Common.{◌≡◌, length, sym, subst, rules, arith}
use Rattle.std.proofs.lemmas.Result.{MatchResult-at_ok, MatchResult-at_err}
use Rattle.table.specs.declared.kinds.Class.TheVariants.{OneClass}
use Rattle.parts.proofs.Walks.{turn, turn_next, walked}
use Rattle.library.specs.Contents.{contents}
use Rattle.library.specs.Counting.{Untouched}
use Rattle.grammar.specs.declared.fault.Pass.TheVariants.{One}
use Rattle.grammar.specs.declared.fault.InClass.{InClass}
use Rattle.grammar.specs.PassOne.{BreaksAlone, BreaksOne, alone, here}
use Rattle.grammar.proofs.Exits.{exit, mapped, around_class}
use Rattle.grammar.proofs.PassesOne.{Declared, declared_more, declared_all}
use Rattle.grammar.proofs.SettlesOne.{settled_one}
use Rattle.grammar.proofs.pass_one.declare_classes.Goals as goal

pub class-requires : goal.class-requires
class-requires c =
    let i = c.loop-p.invariant in
    record { class = (turn_next _ _ _ i.over OneClass _ _ _ i.declared.room.row c.in-Some.ensures.steps).here }

pub declare_class-requires-clause-class : goal.declare_class-requires-clause-class
declare_class-requires-clause-class c =
    let i = c.loop-p.invariant in
    (turn_next _ _ _ i.over OneClass _ _ _ i.declared.room.row c.in-Some.ensures.steps).here

pub returns-in_err-map_err : goal.returns-in_err-map_err
returns-in_err-map_err c =
    let T = c.args.batch.nodes.now in
    let l = c.args.library.now in
    let t = turn _ _ _ c.loop-p.invariant.over _ _ c.in-Some.ensures.steps in
    let w : InClass = record { pass = One; class = c.symbol.result } in
    let m = mapped _ _ _ c.declare_class.result c.map_err.result c.map_err.ensures.cases c.declare_class.ensures in
    let n = mapped _ _ _ c.map_err.result c.map_err-in-loop-p.result c.map_err-in-loop-p.ensures.cases m in
    let y = c.in_err-map_err.field-0.0 in
    let o = MatchResult-at_err _ _ y c.in_err-map_err.was n in
    let i = subst (Declared T c.args.list.end c.args.list.first (contents l) (contents c.loop-p.library)) t.at c.loop-p.invariant.declared in
    let a = subst (BreaksAlone T (contents c.loop-p.library) c.in-Some.p) (sym o.1.2) (alone o.1.1.0) in
    let b = i.bad _ (here t.before c.class.ensures.view a) in
    let u : y ≡ (w, o.0) = search rules in
    record {
      rules = exit _ _ c.from_residual.result _ c.from_residual.ensures.1 (around_class (BreaksOne T c.args.list.end (contents l) c.args.list.first) y One _ _ _ u c.symbol.ensures b);
      settled = settled_one _ _ _ _;
      untouched = λ m. subst (λ v. Untouched (length (contents l).classes) m (contents l) v) (sym o.1.1.1) (i.kept m);
    }

pub loop-p-preserved : goal.loop-p-preserved
loop-p-preserved c =
    let T = c.args.batch.nodes.now in
    let l = c.loop-p.library in
    let t = turn _ _ _ c.loop-p.invariant.over _ _ c.in-Some.ensures.steps in
    let m = mapped _ _ _ c.declare_class.result c.map_err.result c.map_err.ensures.cases c.declare_class.ensures in
    let n = mapped _ _ _ c.map_err.result c.map_err-in-loop-p.result c.map_err-in-loop-p.ensures.cases m in
    let d = MatchResult-at_ok _ _ c.in_ok-map_err.field-0 c.in_ok-map_err.was n in
    let b = Declared T c.args.list.end c.args.list.first (contents c.args.library.now) in
    let i = subst (b (contents l)) t.at c.loop-p.invariant.declared in
    let j = declared_more _ _ _ _ (contents l) (contents c.declare_class.new.library) c.in-Some.p (omega (arith, l.laid, l.layouts.ok.0, l.classes.ok.0)) t.before d i in
    record { over = t.over; declared = subst (b (contents c.declare_class.new.library)) t.next j }

pub returns : goal.returns
returns c =
    let i = c.loop-p.invariant in
    record { rules = declared_all _ _ _ _ _ _ (walked _ _ _ i.over c.in-None.ensures.steps.0) i.declared; settled = settled_one _ _ _ _; untouched = i.declared.kept }
