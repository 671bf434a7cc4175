use Rattle.typing.specs.Expressions.{typed, new}
use Rattle.typing.specs.Expressions.BreaksExpr.{new_type, no_new}
use Rattle.typing.proofs.ClassTypes.{a_class, no_class}
use Rattle.typing.proofs.Steps.{start, noted, told, ended, stopped}
use Rattle.typing.proofs.checker.Checker.new.Goals as goal

pub returns-in_err-of-clause-answer : goal.returns-in_err-of-clause-answer
returns-in_err-of-clause-answer c =
    let h = c.in_err-of.ensures in
    stopped (start c.args.self.now) _ _ c.from_residual.result _ _ c.from_residual.ensures.1 h.1 (new_type c.requires.view h.0)

pub returns-in_default-clause-answer : goal.returns-in_default-clause-answer
returns-in_default-clause-answer c =
    let a = noted (start c.args.self.now) c.note.new.self (typed c.args.class c.in_ok-of.of) c.note.ensures.stays c.note.ensures.left in
    ended a c.at.ensures (no_new c.requires.view c.in_ok-of.ensures (no_class _ c.in_default.not-Class))

pub returns-clause-answer : goal.returns-clause-answer
returns-clause-answer c =
    let t = c.in_ok-of.of in
    let a = noted (start c.args.self.now) c.note.new.self (typed c.args.class t) c.note.ensures.stays c.note.ensures.left in
    told a c.args.p c.note-2.ensures.stays c.note-2.ensures.left c.note-2.ensures.same (new c.requires.view c.in_ok-of.ensures (a_class t _ c.in-Class.is))
