use Rattle.std.proofs.Common.{◌≡◌, true, ◌<◌, ◌≤◌, ◌^◌, None, Ok, Err, MatchResult, subst, rules, arith}
use Rattle.job.specs.Numbers.{plain, number_after}
use Rattle.job.specs.declared.wrong.Wrong.TheVariants.{NumberTooLarge}
use Rattle.job.proofs.Digits.{fitted}
use Rattle.job.proofs.number.decimal.Goals as goal

pub returns-in_err-number : goal.returns-in_err-number
returns-in_err-number g c =
    let p : plain c.args.word.now ≡ true = search rules in
    let large : 2 ^ 64 ≤ number_after 0 c.args.word.now = search rules in
    let told : c.from_residual.result ≡ Err NumberTooLarge = search rules in
    rw p (Err None, large, told)

pub returns : goal.returns
returns g c =
    let p : plain c.args.word.now ≡ true = search rules in
    let is : c.from.result ≡ number_after 0 c.args.word.now = search rules in
    let small : number_after 0 c.args.word.now < 2 ^ 64 = omega (arith, is) in
    let fits : MatchResult c.try_from.result (λ n. c.map_err.result ≡ Ok n) (λ e. c.map_err.result ≡ Err NumberTooLarge) = search rules in
    rw p (fitted g.T.TryFrom.try_from_gives c.args.word.now c.try_from.result c.map_err.result small (subst (λ n. g.T.TryFrom.try_from_gives n c.try_from.result) is c.try_from.ensures) fits)
