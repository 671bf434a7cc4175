use Rattle.std.proofs.Common.{length, unwrap_or, ◌≡◌, eqb, length, unwrap_or, take, ap, ◌∙◌, rules}
use Rattle.std.specs.List.{position}
use borrow.Author.Tests.{tests}
use Rattle.std.proofs.lemmas.Iterator.{YieldsList-from_slice}
use Rattle.std.proofs.lemmas.Iterator.Search.{position_from_yields_List}
use Rattle.job.specs.Words.{before_comment, words_of}
use Rattle.job.proofs.Runs.{cut, found_or_end}
use Rattle.job.proofs.words.Words.new.Goals as goal

pub returns-clause-words : goal.returns-clause-words
returns-clause-words c =
    let at : c.position.result ≡ position (λ b. eqb b 35) c.args.line.now = position_from_yields_List (λ b. eqb b 35) _ _ c.position.result c.position.ensures.ran (YieldsList-from_slice _ c.iter.ensures.rest) (λ x b q k. search (rules, tests)) in
    ap (λ n. words_of (take n c.args.line.now)) (c.unwrap_or-comment.ensures ∙ ap (λ o. unwrap_or o (length c.args.line.now)) at ∙ found_or_end (λ b. eqb b 35) c.args.line.now)

pub returns-clause-cut : goal.returns-clause-cut
returns-clause-cut c = cut (before_comment c.args.line.now)
