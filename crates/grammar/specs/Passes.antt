-- The first two passes over a whole batch.
use Rattle.std.specs.Prelude.{◌≡◌, ℕ, List, length}
use Rattle.table.specs.View.{view}
use Rattle.table.specs.declared.kinds.Node.{Node}
use Rattle.table.specs.declared.view.View.TheVariants.{Program, List as Elements}
use Rattle.library.specs.Contents.{Contents, with_nodes}
use Rattle.grammar.specs.declared.fault.BatchFault.{BatchFault}
use Rattle.grammar.specs.PassOne.{DeclaresAll, BreaksOne, Room}
use Rattle.grammar.specs.PassTwo.{CompletesAll, BreaksTwo}

-- Rules 1.1 and 2.1: the classes of the batch T join the library w, and then get their members.
pub data Declared (T : List Node) (w : Contents) : Contents → Type 0 where
  declared : {c m q e : ℕ} {u v : Contents} → view T 0 ≡ Program c m → view T c ≡ Elements q e →
      DeclaresAll T e (with_nodes w T) q u → CompletesAll T (length w.nodes) e u (length w.classes) q v → Declared T w v

-- How the first two passes are broken first.
pub data Undeclared (T : List Node) (w : Contents) : BatchFault → Type 0 where
  in_one : {c m q e : ℕ} {f : BatchFault} → view T 0 ≡ Program c m → view T c ≡ Elements q e →
      BreaksOne T e (with_nodes w T) q f → Undeclared T w f
  in_two : {c m q e : ℕ} {u : Contents} {f : BatchFault} → view T 0 ≡ Program c m → view T c ≡ Elements q e →
      DeclaresAll T e (with_nodes w T) q u → BreaksTwo T (length w.nodes) e u (length w.classes) q f → Undeclared T w f

-- One result or one broken rule, and never both.
pub record Decided (T : List Node) (w : Contents) : Type 0 where
  pub one_result : (u v : Contents) → Declared T w u → Declared T w v → u ≡ v
  pub one_fault : (f g : BatchFault) → Undeclared T w f → Undeclared T w g → f ≡ g
  pub one_way : (u : Contents) (f : BatchFault) → Declared T w u → Undeclared T w f → ⊥

-- A library of 32 classes has room for those of the batch.
abbrev pub RoomFor : List Node → Contents → Type 0
RoomFor T w = (c m q e : ℕ) → view T 0 ≡ Program c m → view T c ≡ Elements q e → Room T w q e
