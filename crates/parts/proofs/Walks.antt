-- A loop over the positions of a row of elements.
use Rattle.std.proofs.Common.{◌≡◌, ℕ, ◌<◌, ◌≤◌, List, sym, ◌∙◌, subst, arith}
use Rattle.table.specs.Shape.{end_of}
use Rattle.table.specs.declared.kinds.Node.{Node}
use Rattle.table.specs.declared.kinds.Class.{Class}
use Rattle.parts.specs.declared.Positions.{Positions}
use Rattle.parts.specs.Parts.{Row}
use Rattle.parts.specs.Walk.{Over, Gave}
use Rattle.parts.proofs.Rows.{Next, row_next}

module _ (T : List Node) (e : ℕ) (s : Positions) (o : Over T e s) where
  -- the position that was given, in the terms of the batch
  pub record Turn (p : ℕ) (t : Positions) : Type 0 where
    pub over : Over T e t
    pub at : s.next ≡ p
    pub before : p < e
    pub next : end_of T p ≡ t.next

  pub turn : (p : ℕ) (t : Positions) → Gave s p t → Turn p t
  turn p t g =
      record {
        over = record { nodes = g.over.nodes ∙ o.nodes; end = g.over.end ∙ o.end };
        at = sym g.here;
        before = omega (arith, g.before, o.end);
        next = sym (rw o.nodes at g.next);
      }

  -- an element stands there, and the others behind it
  pub turn_next : (c : Class) (n p : ℕ) (t : Positions) → Row T c n s.next e → Gave s p t → Next T c e n p
  turn_next c n p t r g = row_next T c e n p (subst (λ q. Row T c n q e) (turn p t g).at r) (turn p t g).before

  pub walked : s.end ≤ s.next → e ≤ s.next
  walked h = omega (arith, h, o.end)
