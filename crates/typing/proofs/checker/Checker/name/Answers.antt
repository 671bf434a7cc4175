use Rattle.std.proofs.Common.{sym, ◌∙◌}
use Rattle.typing.specs.Expressions.{name, defined, BreaksLvalue}
use Rattle.typing.specs.Expressions.BreaksLvalue.{no_name}
use Rattle.typing.proofs.ClassTypes.{a_variable, no_variable}
use Rattle.typing.proofs.Steps.{start, ended, lacking}
use Rattle.typing.proofs.checker.Checker.name.Goals as goal

pub returns-in_err-found-clause-answer : goal.returns-in_err-found-clause-answer
returns-in_err-found-clause-answer c =
    let h = c.in_err-found.ensures in
    lacking (start c.args.self.now) _ _ c.from_residual.result _ _ _ _ c.from_residual.ensures.1 h.value h.ok_part c.at.ensures (no_name c.requires.view (sym c.definition_named.ensures ∙ h.ok_part))

pub returns-then-not-is_variable-clause-answer : goal.returns-then-not-is_variable-clause-answer
returns-then-not-is_variable-clause-answer c =
    let n = no_variable c.in_ok-found.found.nature c.is_variable.ensures c.if-not-is_variable.true in
    ended (start c.args.self.now) c.at-then-not-is_variable.ensures (BreaksLvalue.no_variable c.requires.view (sym c.definition_named.ensures ∙ c.in_ok-found.ensures.ok_part) n)

pub returns-clause-answer : goal.returns-clause-answer
returns-clause-answer c =
    let n = a_variable c.in_ok-found.found.nature c.is_variable.ensures c.if-not-is_variable.false in
    record { log = defined c.args.p c.in_ok-found.found; holds = name c.requires.view (sym c.definition_named.ensures ∙ c.in_ok-found.ensures.ok_part) n; left = c.define.ensures.left }
