-- The smallest batch, whole and damaged.
use Rattle.std.specs.Prelude.{ℕ, List, [], ◌∷◌}
use Rattle.table.specs.Shape.{Formed, Refused}
use Rattle.table.specs.declared.kinds.Node.{Node}
use Rattle.table.specs.declared.shape.ShapeFault.TheVariants.{Layout}

-- a Program of that size, with no classes and no main
abbrev pub smallest : ℕ → List Node
smallest n = record { kind = 1; size = n; word = 0 } ∷ record { kind = 2; size = 1; word = 1 } ∷ record { kind = 12; size = 1; word = 0 } ∷ []

-- it has its shape with the size 3, and with the size 2 is refused at position 0
pub record SmallestBatch : Type 0 where
  pub whole : Formed (smallest 3)
  pub damaged : Refused (smallest 2) (Layout 0)
