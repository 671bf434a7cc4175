use Rattle.std.proofs.Common.{◌≡◌}
use Rattle.library.specs.Contents.{contents}
use Rattle.library.specs.Environments.{environment}
use Rattle.library.proofs.held.Library.member_named.Given as goal

abbrev pub invariant-loop-member : goal.invariant-loop-member
invariant-loop-member l = environment (contents l.self) l.class l.name ≡ environment (contents l.self) l.at l.name

abbrev pub decreases-loop-member : goal.decreases-loop-member
decreases-loop-member l = l.at
