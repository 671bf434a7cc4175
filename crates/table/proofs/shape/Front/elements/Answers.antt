use Rattle.std.proofs.Common.{◌≡◌, ◌+◌, ◌-◌, sym, subst, arith}
use Rattle.table.specs.Shape.{Elements}
use Rattle.table.proofs.Children.{elements_more, elements_less}
use Rattle.table.proofs.shape.Front.elements.Goals as goal

pub returns-in_default : goal.returns-in_default
returns-in_default c =
    let one : c.args.most - c.loop.counter ≡ c.args.most - (c.loop.counter + 1) + 1 = omega arith in
    (λ t. absurd (cc), λ f. absurd (c.in_default.ensures (elements_less _ _ _ _ _ _ one (λ e. omega arith) (c.loop.invariant.1 f)).0))

pub loop-preserved : goal.loop-preserved
loop-preserved c =
    let one : c.args.most - c.loop.counter ≡ c.args.most - (c.loop.counter + 1) + 1 = omega arith in
    let h = c.in-Some.ensures in
    let left = Elements c.args.self.nodes.now c.args.self.end c.args.element (c.args.most - (c.loop.counter + 1)) in (
      λ f. c.loop.invariant.0 (elements_more _ _ _ _ _ _ one h.0 (subst left h.1 f)),
      λ f. subst left (sym h.1) (elements_less _ _ _ _ _ _ one (λ e. omega arith) (c.loop.invariant.1 f)).1,
    )
