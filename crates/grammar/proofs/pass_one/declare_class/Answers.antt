use Rattle.std.proofs.Common.{◌≡◌, sym, refl, ap, ◌∙◌, subst, rules}
use Rattle.parts.specs.Parts.{symbol_at}
use Rattle.library.specs.Contents.{contents, with_class}
use Rattle.grammar.specs.Faults.{broken}
use Rattle.grammar.specs.declared.fault.Rule.TheVariants.{Class}
use Rattle.grammar.specs.PassOne.{Declares, BreaksClass, class, no_super, taken}
use Rattle.grammar.proofs.Options.{some_from, none_from}
use Rattle.grammar.proofs.Exits.{exit}
use Rattle.grammar.proofs.pass_one.declare_class.Goals as goal

pub returns-in_err-parent : goal.returns-in_err-parent
returns-in_err-parent c =
    let T = c.args.batch.nodes.now in
    let w = contents c.args.library.now in
    let s : c.symbol.result ≡ symbol_at T c.class-parts.result.parent = search rules in
    let o = c.in_err-parent.ensures.ok_part in
    let h = rw s at (rw o at c.class_named.ensures) in
    let v = rw o at c.in_err-parent.ensures.value in
    let a = c.at.ensures in
    let e : broken Class c.args.p ≡ c.in_err-parent.field-0.0 = cc in
    exit _ _ c.from_residual.result _ c.from_residual.ensures.1 (subst (BreaksClass T w c.args.p) e (no_super c.class-parts.ensures.view h), refl)

pub returns-then-is_some : goal.returns-then-is_some
returns-then-is_some c =
    let T = c.args.batch.nodes.now in
    let w = contents c.args.library.now in
    let s : c.symbol.result ≡ symbol_at T c.class-parts.result.parent = search rules in
    let h = rw s at (rw c.in_ok-parent.ensures.ok_part at c.class_named.ensures).0 in
    let n : c.symbol-name.result ≡ symbol_at T c.class-parts.result.name = search rules in
    let t = rw n at (sym c.type_named.ensures ∙ (some_from c.type_named.result (sym c.if-is_some.ensures)).1) in
    let e : broken Class c.class-parts.result.name ≡ c.at-then-is_some.result = search rules in
    (subst (BreaksClass T w c.args.p) e (taken c.class-parts.ensures.view h t), refl)

pub returns : goal.returns
returns c =
    let T = c.args.batch.nodes.now in
    let w = contents c.args.library.now in
    let s : c.symbol.result ≡ symbol_at T c.class-parts.result.parent = search rules in
    let h = rw s at (rw c.in_ok-parent.ensures.ok_part at c.class_named.ensures).0 in
    let n : c.symbol-name.result ≡ symbol_at T c.class-parts.result.name = search rules in
    let t = rw n at (sym c.type_named.ensures ∙ none_from c.type_named.result (sym c.if-is_some.ensures)) in
    let e = ap (λ x. with_class w x c.in_ok-parent.parent) (sym n) ∙ sym c.add_class.ensures in
    subst (Declares T w c.args.p) e (class c.class-parts.ensures.view h t)
