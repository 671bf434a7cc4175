use Rattle.std.proofs.Common.{Ok, Err, Some, None, sym, ap, ◌∙◌, refl}
use Rattle.job.specs.Commands.{line_of}
use Rattle.job.proofs.Bounds.{ended}
use Rattle.job.proofs.session.Session.end_line.Goals as goal

pub returns-in_err-command-in-Ok : goal.returns-in_err-command-in-Ok
returns-in_err-command-in-Ok c =
    ended _ _ _ (Ok None) c.saturating_add-self.ensures c.clear.ensures (sym (c.in-Ok.is ∙ ap Ok c.in_err-command-in-Ok.was) ∙ c.read_line-command.ensures ∙ ap line_of c.as_slice.ensures)
    (λ written h. (c.from_residual.ensures, h))

pub returns-in_ok-command-in-Ok : goal.returns-in_ok-command-in-Ok
returns-in_ok-command-in-Ok c =
    ended _ _ _ (Ok (Some c.in_ok-command-in-Ok.field-0)) (c.obey.ensures.same_count ∙ c.saturating_add-self.ensures) (c.obey.ensures.same_line ∙ c.clear.ensures) (sym (c.in-Ok.is ∙ ap Ok c.in_ok-command-in-Ok.was) ∙ c.read_line-command.ensures ∙ ap line_of c.as_slice.ensures)
    (λ written h. (c.obey.ensures.replies written h, c.obey.ensures.holds written h))

pub returns-in-Err : goal.returns-in-Err
returns-in-Err c =
    ended _ _ _ (Err c.in-Err.wrong) c.saturating_add-self.ensures c.clear.ensures (sym c.in-Err.is ∙ c.read_line-command.ensures ∙ ap line_of c.as_slice.ensures)
    (λ written h. (refl, h))
