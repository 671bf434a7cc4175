use Rattle.std.proofs.Common.{sym, ap, ◌∙◌, subst, arith}
use Rattle.library.specs.Contents.{contents}
use Rattle.grammar.specs.PassOne.{Room, DeclaresAll, BreaksOne}
use Rattle.grammar.specs.PassTwo.{CompletesAll, BreaksTwo}
use Rattle.grammar.specs.Passes.{Declared, declared, in_one, in_two}
use Rattle.grammar.proofs.Decides.{decided}
use Rattle.grammar.proofs.Exits.{exit}
use Rattle.grammar.proofs.Whole.{numbered, put_back_one, put_back_two}
use Rattle.grammar.proofs.declare.declare.Goals as goal

pub declare_classes-requires : goal.declare_classes-requires
declare_classes-requires c =
    let r = c.requires.classes _ _ _ _ c.program.ensures.view c.elements-list.ensures.view in
    subst (λ u. Room c.args.batch.nodes.now u c.elements-list.result.first c.elements-list.result.end) (sym c.keep_nodes.ensures) (record { count = r.count; row = r.row; fits = r.fits })

pub drop-extension-requires : goal.drop-extension-requires
drop-extension-requires c = (c.args.library.now, put_back_one c.args.library.now c.args.batch.nodes.now _ _ _ c.counts-saved.ensures c.keep_nodes.ensures c.declare_classes.ensures.untouched)

pub returns-in_err-declare_classes : goal.returns-in_err-declare_classes
returns-in_err-declare_classes c =
    let T = c.args.batch.nodes.now in
    let l = c.args.library.now in
    let b = subst (λ w. BreaksOne T c.elements-list.result.end w c.elements-list.result.first c.in_err-declare_classes.field-0.0) c.keep_nodes.ensures c.in_err-declare_classes.ensures.rules in
    let f = in_one c.program.ensures.view c.elements-list.ensures.view b in
    let k = put_back_one l T _ _ _ c.counts-saved.ensures c.keep_nodes.ensures c.declare_classes.ensures.untouched in
    record { rules = exit _ _ c.from_residual.result _ c.from_residual.ensures.1 (f, c.drop-extension.ensures ∙ k); decided = decided T (contents l) }

pub complete_classes-requires : goal.complete_classes-requires
complete_classes-requires c =
    let T = c.args.batch.nodes.now in
    let l = c.args.library.now in
    let a = c.elements-list.result.first in
    let e = c.elements-list.result.end in
    let u = contents c.declare_classes.new.library in
    let r = c.requires.classes _ _ _ _ c.program.ensures.view c.elements-list.ensures.view in
    let d = subst (λ w. DeclaresAll T e w a u) c.keep_nodes.ensures c.in_ok-declare_classes.ensures.rules in
    let n = numbered l T u a e r d in
    let i = ap (λ x. x.classes) c.counts-saved.ensures in
    let j = ap (λ x. x.nodes) c.counts-saved.ensures in
    record { count = n.count; row = n.row; positive = omega (arith, i, n.positive); known = omega (arith, i, n.known); kept = omega (arith, j, n.kept); room = omega (arith, j, n.room) }

pub drop-extension-requires-in_err-complete_classes : goal.drop-extension-requires-in_err-complete_classes
drop-extension-requires-in_err-complete_classes c =
    let l = c.args.library.now in
    let r = c.requires.classes _ _ _ _ c.program.ensures.view c.elements-list.ensures.view in
    (l, put_back_two l c.args.batch.nodes.now _ _ _ _ _ _ c.counts-saved.ensures c.keep_nodes.ensures c.declare_classes.ensures.untouched r c.in_ok-declare_classes.ensures.rules c.complete_classes.ensures.untouched)

pub returns-in_err-complete_classes : goal.returns-in_err-complete_classes
returns-in_err-complete_classes c =
    let T = c.args.batch.nodes.now in
    let l = c.args.library.now in
    let a = c.elements-list.result.first in
    let o = c.elements-list.result.end in
    let u = contents c.declare_classes.new.library in
    let r = c.requires.classes _ _ _ _ c.program.ensures.view c.elements-list.ensures.view in
    let d = subst (λ w. DeclaresAll T o w a u) c.keep_nodes.ensures c.in_ok-declare_classes.ensures.rules in
    let b = subst (λ k. BreaksTwo T k.nodes o u k.classes a c.in_err-complete_classes.field-0.0) c.counts-saved.ensures c.in_err-complete_classes.ensures.rules in
    let f = in_two c.program.ensures.view c.elements-list.ensures.view d b in
    let k = put_back_two l T _ _ _ _ _ _ c.counts-saved.ensures c.keep_nodes.ensures c.declare_classes.ensures.untouched r c.in_ok-declare_classes.ensures.rules c.complete_classes.ensures.untouched in
    record { rules = exit _ _ c.from_residual-in_err-complete_classes.result _ c.from_residual-in_err-complete_classes.ensures.1 (f, c.drop-extension-in_err-complete_classes.ensures ∙ k); decided = decided T (contents l) }

pub returns : goal.returns
returns c =
    let T = c.args.batch.nodes.now in
    let w = contents c.args.library.now in
    let a = c.elements-list.result.first in
    let e = c.elements-list.result.end in
    let u = contents c.declare_classes.new.library in
    let v = contents c.complete_classes.new.library in
    let d = subst (λ w. DeclaresAll T e w a u) c.keep_nodes.ensures c.in_ok-declare_classes.ensures.rules in
    let k = subst (λ s. CompletesAll T s.nodes e u s.classes a v) c.counts-saved.ensures c.in_ok-complete_classes.ensures.rules in
    let g = declared c.program.ensures.view c.elements-list.ensures.view d k in
    record { rules = subst (λ x. Declared T w (contents x)) (sym c.accept.ensures) g; decided = decided T w }
