use Rattle.std.proofs.Common.{sym, ap, ◌∙◌}
use Rattle.names.specs.Env.{lookup}
use Rattle.types.specs.Classes.{class_at}
use Rattle.library.specs.Members.{called}
use Rattle.library.specs.Contents.{contents}
use Rattle.library.proofs.Climbs.{environment_own, environment_up}
use Rattle.library.proofs.held.Library.member_named.Goals as goal

pub returns-in-Some : goal.returns-in-Some
returns-in-Some c =
    let l = c.args.self.now in
    let r = c.in-Some.ensures ∙ ap (λ ms. lookup called ms c.args.name) c.own_members.ensures in
    sym (c.loop-member.invariant ∙ environment_own (contents l) l.ordered.lower _ _ _ r)

pub returns-in_err-at : goal.returns-in_err-at
returns-in_err-at c =
    let l = c.args.self.now in
    let r = c.in_default.ensures ∙ ap (λ ms. lookup called ms c.args.name) c.own_members.ensures in
    let p = ap (λ cs. (class_at cs c.loop-member.at).parent) (sym c.classes.ensures) ∙ sym c.parent_of.ensures ∙ c.in_err-at.was in
    c.from_residual.ensures ∙ sym (c.loop-member.invariant ∙ environment_up (contents l) l.ordered.lower _ _ _ r p)

pub loop-member-preserved : goal.loop-member-preserved
loop-member-preserved c =
    let l = c.args.self.now in
    let r = c.in_default.ensures ∙ ap (λ ms. lookup called ms c.args.name) c.own_members.ensures in
    let p = ap (λ cs. (class_at cs c.loop-member.at).parent) (sym c.classes.ensures) ∙ sym c.parent_of.ensures ∙ c.in_ok-at.was in
    c.loop-member.invariant ∙ environment_up (contents l) l.ordered.lower _ _ _ r p
