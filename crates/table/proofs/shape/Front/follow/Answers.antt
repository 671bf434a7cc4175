use Rattle.std.proofs.Common.{Decides, rules, subst}
use Rattle.table.specs.Shape.{Follow}
use borrow.Author.Tests.{tests}
use Rattle.table.proofs.Children.{follows}
use Rattle.table.proofs.shape.Front.follow.Goals as goal

pub returns : goal.returns
returns c =
    let ns = c.args.self.nodes.now in
    let e = c.args.self.end in
    subst (λ cs. Decides c.is_some_and.result (Follow ns e cs c.args.first)) c.iter.ensures.rest
    (follows ns e _ _ _ _ _ _ _ _ _ (λ q x v f k. search (rules, tests)) c.try_fold.ensures.ran c.is_some_and.ensures (λ a p. search (rules, tests)))
