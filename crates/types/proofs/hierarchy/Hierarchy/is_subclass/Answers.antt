use Rattle.std.proofs.Common.{◌≡◌, sym, subst, arith}
use Rattle.std.proofs.lemmas.Bool.Decides.{nat_tests}
use Rattle.table.proofs.Answered.{said_no}
use Rattle.values.specs.declared.types.«Type».TheVariants.{Class as ClassType}
use Rattle.types.specs.Subtypes.{Subtype}
use Rattle.types.specs.Subtypes.Subtype.{same, climb}
use Rattle.types.proofs.Climbing.{no_lower, parent_under, none_above}
use Rattle.types.proofs.hierarchy.Hierarchy.is_subclass.Goals as goal

pub returns-in_default : goal.returns-in_default
returns-in_default c = said_no (λ s. none_above _ c.args.self.ordered _ _ (sym c.in_default.ensures) c.loop-class-test.true (c.loop-class.invariant.1 s))

pub loop-class-smaller : goal.loop-class-smaller
loop-class-smaller c = c.args.self.ordered.lower _ _ (sym c.in-Some.ensures)

pub loop-class-preserved : goal.loop-class-preserved
loop-class-preserved c =
    let e = sym c.in-Some.ensures in
    (λ s. c.loop-class.invariant.0 (climb e s), λ s. parent_under _ c.args.self.ordered _ _ _ e c.loop-class-test.true (c.loop-class.invariant.1 s))

pub returns : goal.returns
returns c = (
  λ t. c.loop-class.invariant.0 (let e : c.loop-class.class ≡ c.args.upper = grind (arith, nat_tests) in subst (λ n. Subtype c.args.self.classes.now (ClassType n) (ClassType c.args.upper)) (sym e) same),
  λ s. let l = no_lower _ c.args.self.ordered (c.loop-class.invariant.1 s) in grind (arith, nat_tests),
)
