use Rattle.std.proofs.Common.{rules}
use Rattle.table.specs.declared.kinds.Listed.TheVariants.{Params}
use Rattle.grammar.specs.PassTwo.{MayOverride, method}
use Rattle.grammar.specs.PassTwo.BreaksMethod.{no_type, params, overrides}
use Rattle.grammar.proofs.Exits.{exit}
use Rattle.grammar.proofs.methods.MethodsMemberKind.declared.Goals as goal

pub returns-in_err-of : goal.returns-in_err-of
returns-in_err-of c =
    let h = c.in_err-of.ensures in
    exit _ _ c.from_residual.result _ c.from_residual.ensures.1 (rw h.1 (no_type c.method-parts.ensures.view h.0))

pub params-requires : goal.params-requires
params-requires c = c.elements.ensures.holds Params c.method-parts.ensures.params

pub returns-in_err-types : goal.returns-in_err-types
returns-in_err-types c =
    exit _ _ c.from_residual-in_err-types.result _ c.from_residual-in_err-types.ensures.1 (params c.method-parts.ensures.view c.in_ok-of.ensures c.elements.ensures.view c.in_err-types.ensures)

pub returns-then-not-may_override : goal.returns-then-not-may_override
returns-then-not-may_override c =
    let h = c.in_ok-types.ensures in
    let n : MayOverride c.hierarchy.result.classes.now c.in_ok-types.types c.in_ok-of.of c.member_named.result → ⊥ = search rules in
    rw c.at.ensures
    (overrides c.method-parts.ensures.view c.in_ok-of.ensures c.elements.ensures.view h.2 (rw (c.hierarchy.ensures, h.1, c.member_named.ensures, c.symbol-name.ensures) at n))

pub returns : goal.returns
returns c =
    let h = c.in_ok-types.ensures in
    let n : MayOverride c.hierarchy.result.classes.now c.in_ok-types.types c.in_ok-of.of c.member_named.result = search rules in
    rw (c.symbol-name.ensures, h.1)
    (method c.method-parts.ensures.view c.in_ok-of.ensures c.elements.ensures.view h.2 (rw (c.hierarchy.ensures, h.1, c.member_named.ensures, c.symbol-name.ensures) at n))
