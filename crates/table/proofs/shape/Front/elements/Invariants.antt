use Rattle.std.proofs.Common.{◌-◌}
use Rattle.table.specs.Shape.{Elements}
use Rattle.table.proofs.shape.Front.elements.Given as goal

-- what is left to follow, from q on, decides the whole
abbrev pub invariant-loop : goal.invariant-loop
invariant-loop l =
    (Elements l.self.nodes.now l.self.end l.element (l.most - l.counter) l.q → Elements l.self.nodes.now l.self.end l.element l.most l.first) ×
    (Elements l.self.nodes.now l.self.end l.element l.most l.first → Elements l.self.nodes.now l.self.end l.element (l.most - l.counter) l.q)
