use Rattle.std.proofs.Common.{◌≡◌, ◌-◌, length, drop, sym, refl, ◌∙◌, arith}
use Rattle.std.proofs.lemmas.List.{length-drop}
use Rattle.std.proofs.lemmas.Slice.{between_to_end}
use Rattle.names.specs.Env.{lookup}
use Rattle.library.specs.Members.{called}
use Rattle.library.specs.Contents.{contents}
use Rattle.grammar.specs.Members.{alone, repeated}
use Rattle.grammar.proofs.Exits.{exit}
use Rattle.grammar.proofs.Options.{some_from}
use Rattle.grammar.proofs.members.declare_member.Goals as goal

pub returns-in_err-member : goal.returns-in_err-member
returns-in_err-member g c = exit _ _ c.from_residual.result _ c.from_residual.ensures.1 (alone c.in_err-member.ensures, refl)

pub returns-then-is_some : goal.returns-then-is_some
returns-then-is_some g c =
    let ms = (contents c.args.library.now).members in
    let n : c.member_count-end.result - c.args.first ≡ length (drop c.args.first ms) = omega (arith, length-drop c.args.first ms, c.member_count-end.ensures) in
    let a = c.members_between.ensures in let f = c.find.ensures in
    let e = between_to_end ms c.args.first c.member_count-end.result (omega (arith, c.member_count-end.ensures)) in
    let k : c.find.result ≡ lookup called (drop c.args.first ms) c.in_ok-member.member.name = cc in
    let o = some_from c.find.result (sym c.if-is_some.ensures) in
    (rw (c.at.ensures, c.REPEATED.ensures) (repeated (rw n at c.in_ok-member.ensures) (sym k ∙ o.1)), refl)
