use Rattle.std.proofs.Common.{◌≡◌, ℕ, Decides, subst, arith, rules}
use Rattle.std.proofs.lemmas.Bool.Decides.{nat_tests, Decides-like}
use Rattle.values.specs.declared.types.«Type».TheVariants.{Null, Class as ClassType}
use Rattle.types.specs.Subtypes.{Subtype}
use Rattle.types.specs.Subtypes.Subtype.{same, null}
use Rattle.types.proofs.Climbing.{under_plain, null_known}
use Rattle.types.proofs.hierarchy.Hierarchy.is_subtype.Goals as goal
use Rattle.types.proofs.hierarchy.Hierarchy.is_subtype.Goals.{in_default-via-in-Class+in_default, in_default-via-in-Null+in_default, in_default-via-in_default}

pub returns-in-Null-Class-clause-answer : goal.returns-in-Null-Class-clause-answer
returns-in-Null-Class-clause-answer c =
    rw (c.in-Null-Class.is-0, c.in-Null-Class.is-1) (λ t. null {k = c.in-Null-Class.above} (grind (arith, nat_tests)), λ s. let l = null_known _ s in grind (arith, nat_tests))

pub returns-in_default-clause-answer : goal.returns-in_default-clause-answer
returns-in_default-clause-answer c =
    let d : Decides c.eq.result (c.args.lower ≡ c.args.upper) = search rules in
    let n : (k j : ℕ) → c.args.lower ≡ ClassType k → c.args.upper ≡ ClassType j → ⊥ = λ k j p q.
    elim c.in_default.branch [
      | in_default-via-in-Class+in_default w ↦ w.in_default.not-Class-1 j q
      | in_default-via-in-Null+in_default w ↦ w.in_default.not-Class-1 j q
      | in_default-via-in_default w ↦ w.in_default.not-Class-0 k p
    ]
    in
    let m : (j : ℕ) → c.args.lower ≡ Null → c.args.upper ≡ ClassType j → ⊥ = λ j p q.
    elim c.in_default.branch [
      | in_default-via-in-Class+in_default w ↦ w.in_default.not-Class-1 j q
      | in_default-via-in-Null+in_default w ↦ w.in_default.not-Class-1 j q
      | in_default-via-in_default w ↦ w.in_default.not-Null-0 p
    ]
    in
    Decides-like _ (λ e. subst (λ t. Subtype c.args.self.classes.now c.args.lower t) e same) (under_plain _ n m) d
