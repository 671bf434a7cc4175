use Rattle.std.proofs.Common.{rules, tests, subst, MatchOption, ◌≤◌, ◌≡◌}
use Rattle.job.specs.Numbers.{number_after}
use Rattle.job.proofs.Digits.{folded}
use Rattle.job.proofs.number.number_of.Goals as goal

pub returns : goal.returns
returns c =
    subst (λ ds. MatchOption c.try_fold.result (18446744073709551616 ≤ number_after 0 ds) (λ n. n ≡ number_after 0 ds)) c.iter.ensures.rest
    (folded _ _ _ _ _ _ (λ n x v f k. search (rules, tests)) c.try_fold.ensures.ran)
