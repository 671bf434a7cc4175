use Rattle.typing.specs.Expressions.{this}
use Rattle.typing.specs.Expressions.BreaksExpr.{no_this}
use Rattle.typing.proofs.Steps.{start, told, lacking}
use Rattle.typing.proofs.checker.Checker.this.Goals as goal

pub returns-in_err-class-clause-answer : goal.returns-in_err-class-clause-answer
returns-in_err-class-clause-answer c =
    let h = c.in_err-class.ensures in
    lacking (start c.args.self.now) _ _ c.from_residual.result _ _ _ _ c.from_residual.ensures.1 h.value h.ok_part c.at.ensures (no_this c.requires.view h.ok_part)

pub returns-clause-answer : goal.returns-clause-answer
returns-clause-answer c =
    told (start c.args.self.now) c.args.p c.note.ensures.stays c.note.ensures.left c.note.ensures.same (this c.requires.view c.in_ok-class.ensures.ok_part)
