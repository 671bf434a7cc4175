use Rattle.std.proofs.Common.{◌≡◌, rules}
use Rattle.values.specs.declared.types.«Type».TheVariants.{Void}
use Rattle.grammar.specs.PassTwo.{Hides, field, hides}
use Rattle.grammar.specs.PassTwo.BreaksField.{no_type, void}
use Rattle.grammar.proofs.Exits.{exit}
use Rattle.grammar.proofs.fields.FieldsMemberKind.declared.Goals as goal
use Rattle.grammar.proofs.fields.FieldsMemberKind.declared.Goals.{then-eq-via-then-eq, then-eq-via-else-eq+then-not-may_hide}

pub returns-in_err-of : goal.returns-in_err-of
returns-in_err-of c =
    let h = c.in_err-of.ensures in
    exit _ _ c.from_residual.result _ c.from_residual.ensures.1 (rw h.1 (no_type c.field-parts.ensures.view h.0))

pub returns-then-eq : goal.returns-then-eq
returns-then-eq c =
    rw c.at.ensures (elim c.then-eq.branch [
      | then-eq-via-then-eq k ↦ let h = k.if-eq in let e : c.in_ok-of.of ≡ Void = search rules in void c.field-parts.ensures.view (rw e at c.in_ok-of.ensures)
      | then-eq-via-else-eq+then-not-may_hide k ↦
          let h = k.if-eq in let i = k.if-not-may_hide in let m = k.may_hide in
          let n : Hides k.member_named.result → ⊥ = search rules in
          hides c.field-parts.ensures.view c.in_ok-of.ensures (search rules) (rw (k.member_named.ensures, c.symbol-name.ensures) at n)
    ])

pub returns : goal.returns
returns c =
    let n : Hides c.member_named.result = search rules in
    rw (c.symbol-name.ensures, c.visibility.ensures, c.cells.ensures.value)
    (field c.field-parts.ensures.view c.in_ok-of.ensures (search rules) (rw (c.member_named.ensures, c.symbol-name.ensures) at n))
