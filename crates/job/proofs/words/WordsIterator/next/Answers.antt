use Rattle.std.proofs.Common.{sym, drop, length, unwrap_or, ◌-◌, arith, ◌≡◌, not, eqb, take, ap, ◌∙◌, rules}
use Rattle.std.specs.List.{position}
use Rattle.std.proofs.lemmas.List.{take_all, length-drop}
use borrow.Author.Tests.{tests}
use Rattle.std.proofs.lemmas.Iterator.{YieldsList-from_slice}
use Rattle.std.proofs.lemmas.Iterator.Search.{position_from_yields_List}
use Rattle.job.proofs.Runs.{no_word_at, word_at}
use Rattle.job.proofs.words.WordsIterator.next.Goals as goal

pub returns-in_err-start-clause-steps : goal.returns-in_err-start-clause-steps
returns-in_err-start-clause-steps c =
    let at : c.position.result ≡ position (λ b. not (eqb b 32)) c.self.inside.rest.now = position_from_yields_List (λ b. not (eqb b 32)) _ _ c.position.result c.position.ensures.ran (YieldsList-from_slice _ c.iter.ensures.rest) (λ x b q k. search (rules, tests)) in
    let none = sym c.self.view_is ∙ no_word_at c.self.inside.rest.now (sym at ∙ c.in_err-start.was) in
    rw c.from_residual.ensures (none, none)

pub returns-clause-steps : goal.returns-clause-steps
returns-clause-steps c =
    let at : c.position.result ≡ position (λ b. not (eqb b 32)) c.self.inside.rest.now = position_from_yields_List (λ b. not (eqb b 32)) _ _ c.position.result c.position.ensures.ran (YieldsList-from_slice _ c.iter.ensures.rest) (λ x b q k. search (rules, tests)) in
    let text = take (length c.self.inside.rest.now - c.in_ok-start.start) (drop c.in_ok-start.start c.self.inside.rest.now) in
    let whole : text ≡ drop c.in_ok-start.start c.self.inside.rest.now = take_all _ _ (omega (arith, length-drop c.in_ok-start.start c.self.inside.rest.now)) in
    let end : c.position-2.result ≡ position (λ b. eqb b 32) text = position_from_yields_List (λ b. eqb b 32) _ _ c.position-2.result c.position-2.ensures.ran (YieldsList-from_slice _ c.iter-2.ensures.rest) (λ x b q k. search (rules, tests)) in
    let cut = c.unwrap_or-end.ensures ∙ ap (λ o. unwrap_or o (length text)) end in
    sym c.self.view_is ∙ word_at c.self.inside.rest.now text _ _ c.in_ok-start.start (sym at ∙ c.in_ok-start.was) whole (c.split_at.ensures.front ∙ ap (λ n. take n text) cut) (c.split_at.ensures.back ∙ ap (λ n. drop n text) cut)
