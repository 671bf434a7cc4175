use Rattle.std.proofs.Common.{◌↔◌}
use Rattle.values.specs.declared.types.«Type».TheVariants.{Class as ClassType}
use Rattle.types.specs.Subtypes.{Subtype}
use Rattle.types.proofs.hierarchy.Hierarchy.is_subclass.Given as goal

-- the answer is the same from every class on the way
abbrev pub invariant-loop-class : goal.invariant-loop-class
invariant-loop-class l = Subtype l.self.classes.now (ClassType l.class) (ClassType l.upper) ↔ Subtype l.self.classes.now (ClassType l.lower) (ClassType l.upper)

abbrev pub decreases-loop-class : goal.decreases-loop-class
decreases-loop-class l = l.class
