use Rattle.std.proofs.Common.{◌≡◌, ◌+◌, ◌-◌, [], length, sym, refl, ap, ◌∙◌, subst, arith}
use Rattle.table.specs.declared.kinds.Listed.TheVariants.{Fields, Methods}
use Rattle.names.specs.Env.{lookup, Apart}
use Rattle.library.specs.Members.{called, layout_at}
use Rattle.library.specs.Contents.{contents, added}
use Rattle.grammar.specs.Ready.{DeclaredAt}
use Rattle.grammar.specs.PassTwo.{MethodsAre, BreaksMethods, Completes, class}
use Rattle.grammar.specs.PassTwo.BreaksMembers.{fields, methods, shared}
use Rattle.grammar.proofs.Exits.{exit}
use Rattle.grammar.proofs.Joined.{first_all, methods_placed}
use Rattle.grammar.proofs.Stages.{stage_length, stage_layouts, stage_scope, fields_part, methods_part, finished}
use Rattle.grammar.proofs.pass_two.complete_class.Goals as goal

pub declare_members-requires-clause-row : goal.declare_members-requires-clause-row
declare_members-requires-clause-row c = let r = c.elements.ensures.holds Fields c.class-parts.ensures.fields in (r.0, r.2)

pub declare_members-requires-2-clause-row : goal.declare_members-requires-2-clause-row
declare_members-requires-2-clause-row c = let r = c.elements-2.ensures.holds Methods c.class-parts.ensures.methods in (r.0, r.2)

pub shared_name-requires : goal.shared_name-requires
shared_name-requires c =
    let T = c.args.batch.nodes.now in
    let l = c.args.library.now in
    let w = contents l in
    let u = contents c.declare_members.new.library in
    let v = contents c.declare_members-2.new.library in
    let k = c.args.class in
    let j = c.super_class-parent.result in
    let n = c.args.kept in
    let g = c.in_ok-declare_members.ensures in
    let h = c.in_ok-declare_members-2.ensures in
    let z = stage_scope l u g.grows k j n in
    let a = c.members_between.ensures ∙ methods_part w u v g.grows h.grows _ _ c.member_count-middle.ensures c.member_count-end.ensures in
    let b = c.members_between-2.ensures ∙ fields_part w u v g.grows h.grows _ _ c.member_count-first.ensures c.member_count-middle.ensures in
    let f = rw b at (rw a at (sym c.in-Some.ensures.value)) in
    let m = subst (λ y. MethodsAre T y c.elements-2.result.end [] c.elements-2.result.first (added u v)) z h.rules in
    let r = c.elements-2.ensures.holds Methods c.class-parts.ensures.methods in
    first_all (DeclaredAt T n) (added u v) (lookup called (added w u)) c.in-Some.method (methods_placed r.0 r.2 m tt) f

pub returns-in_err-declare_members-clause-rules : goal.returns-in_err-declare_members-clause-rules
returns-in_err-declare_members-clause-rules c =
    let h = c.in_err-declare_members.ensures in
    exit _ _ c.from_residual.result _ c.from_residual.ensures.1 (fields c.class-parts.ensures.view c.super_class-parent.ensures.extends c.elements.ensures.view h.rules)

pub returns-in_err-declare_members-2-clause-rules : goal.returns-in_err-declare_members-2-clause-rules
returns-in_err-declare_members-2-clause-rules c =
    let T = c.args.batch.nodes.now in
    let l = c.args.library.now in
    let u = contents c.declare_members.new.library in
    let k = c.args.class in
    let j = c.super_class-parent.result in
    let n = c.args.kept in
    let g = c.in_ok-declare_members.ensures in
    let h = c.in_err-declare_members-2.ensures in
    let z = stage_scope l u g.grows k j n in
    let b = subst (λ y. BreaksMethods T y c.elements-2.result.end [] c.elements-2.result.first c.in_err-declare_members-2.field-0.0) z h.rules in
    exit _ _ c.from_residual-in_err-declare_members-2.result _ c.from_residual-in_err-declare_members-2.ensures.1 (methods c.class-parts.ensures.view c.super_class-parent.ensures.extends c.elements.ensures.view g.rules c.elements-2.ensures.view b)

pub returns-in-Some-clause-rules : goal.returns-in-Some-clause-rules
returns-in-Some-clause-rules c =
    let T = c.args.batch.nodes.now in
    let l = c.args.library.now in
    let w = contents l in
    let u = contents c.declare_members.new.library in
    let v = contents c.declare_members-2.new.library in
    let k = c.args.class in
    let j = c.super_class-parent.result in
    let n = c.args.kept in
    let g = c.in_ok-declare_members.ensures in
    let h = c.in_ok-declare_members-2.ensures in
    let z = stage_scope l u g.grows k j n in
    let a = c.members_between.ensures ∙ methods_part w u v g.grows h.grows _ _ c.member_count-middle.ensures c.member_count-end.ensures in
    let b = c.members_between-2.ensures ∙ fields_part w u v g.grows h.grows _ _ c.member_count-first.ensures c.member_count-middle.ensures in
    let f = rw b at (rw a at (sym c.in-Some.ensures.value)) in
    let m = subst (λ y. MethodsAre T y c.elements-2.result.end [] c.elements-2.result.first (added u v)) z h.rules in
    shared c.class-parts.ensures.view c.super_class-parent.ensures.extends c.elements.ensures.view g.rules c.elements-2.ensures.view m f c.shared_name.ensures

pub returns-clause-rules : goal.returns-clause-rules
returns-clause-rules c =
    let T = c.args.batch.nodes.now in
    let l = c.args.library.now in
    let w = contents l in
    let u = contents c.declare_members.new.library in
    let v = contents c.declare_members-2.new.library in
    let k = c.args.class in
    let j = c.super_class-parent.result in
    let n = c.args.kept in
    let g = c.in_ok-declare_members.ensures in
    let h = c.in_ok-declare_members-2.ensures in
    let z = stage_scope l u g.grows k j n in
    let a = c.members_between.ensures ∙ methods_part w u v g.grows h.grows _ _ c.member_count-middle.ensures c.member_count-end.ensures in
    let b = c.members_between-2.ensures ∙ fields_part w u v g.grows h.grows _ _ c.member_count-first.ensures c.member_count-middle.ensures in
    let m = subst (λ y. MethodsAre T y c.elements-2.result.end [] c.elements-2.result.first (added u v)) z h.rules in
    let q = stage_length w u g.grows in
    let y = c.cells.ensures.value ∙ ap (λ ls. (layout_at ls j).cells) (stage_layouts u v h.grows ∙ stage_layouts w u g.grows) in
    let o : c.cells.result + (c.member_count-middle.result - c.member_count-first.result) ≡ (layout_at w.layouts j).cells + length (added w u) = omega (arith, q, y, c.member_count-first.ensures, c.member_count-middle.ensures) in
    let t = subst (λ ys. Apart (lookup called ys) (lookup called c.members_between-2.result.now)) a (c.in_default.ensures.union.1 refl) in
    let d = class c.class-parts.ensures.view c.super_class-parent.ensures.extends c.elements.ensures.view g.rules c.elements-2.ensures.view m (subst (λ ys. Apart (lookup called (added u v)) (lookup called ys)) b t) in
    subst (Completes T n w k c.args.p) (sym (c.finish_class.ensures ∙ finished w u v g.grows h.grows k j _ _ c.member_count-first.ensures o)) d
