use Rattle.std.proofs.Common.{Some, sym, ◌∙◌, subst}
use Rattle.job.specs.Play.{Judged, Replies, judged}
use Rattle.job.specs.declared.answer.Answer.TheVariants.{Shape}
use Rattle.job.proofs.Bounds.{judged_whole}
use Rattle.job.proofs.session.Session.obey.Goals as goal

pub returns-in-Shape-clause-replies : goal.returns-in-Shape-clause-replies
returns-in-Shape-clause-replies c = λ written h.
    let shape = c.check_shape-shape.result in
    let kept = subst (λ ns. Judged ns shape) (c.as_slice.ensures ∙ h) c.check_shape-shape.ensures.verdict in
    subst (λ command. Replies command written (Some (Shape shape))) (sym c.in-Shape.is) (judged shape (judged_whole written shape kept))
