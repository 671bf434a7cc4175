-- Going over the positions of the elements that follow one another in a batch.
use Rattle.std.specs.Prelude.{◌≡◌, ℕ, ◌<◌, ◌≤◌, List, Option, MatchOption}
use Rattle.table.specs.Shape.{end_of}
use Rattle.table.specs.declared.kinds.Node.{Node}
use Rattle.parts.specs.declared.Positions.{Positions}

-- s goes on over the batch T up to e
pub record Over (T : List Node) (e : ℕ) (s : Positions) : Type 0 where
  pub nodes : s.batch.nodes.now ≡ T
  pub end : s.end ≡ e

-- s gave p, where it stood, and goes on as t behind the part there
pub record Gave (s : Positions) (p : ℕ) (t : Positions) : Type 0 where
  pub over : Over s.batch.nodes.now s.end t
  pub here : p ≡ s.next
  pub before : p < s.end
  pub next : t.next ≡ end_of s.batch.nodes.now p

-- a step gives the next position before the end, and nothing at the end
abbrev pub Steps : Positions → Option ℕ → Positions → Type 0
Steps s r t = MatchOption r ((s.end ≤ s.next) × Over s.batch.nodes.now s.end t × (t.next ≡ s.next)) (λ p. Gave s p t)
