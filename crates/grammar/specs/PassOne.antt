-- Pass one: the names of the classes and their hierarchy.
use Rattle.std.specs.Prelude.{◌≡◌, ℕ, ◌+◌, ◌<◌, ◌≤◌, List, length, Some, None, ◌≢◌}
use Rattle.table.specs.Shape.{end_of}
use Rattle.table.specs.View.{view}
use Rattle.table.specs.declared.kinds.Node.{Node}
use Rattle.table.specs.declared.view.View.TheVariants.{DeclClass}
use Rattle.values.specs.declared.types.«Type».{«Type» as Ty}
use Rattle.values.specs.declared.types.«Type».TheVariants.{Class as ClassType}
use Rattle.table.specs.declared.kinds.Class.TheVariants.{OneClass}
use Rattle.parts.specs.Parts.{Row, symbol_at}
use Rattle.library.specs.Contents.{Contents, with_class}
use Rattle.library.specs.Environments.{type_env}
use Rattle.grammar.specs.declared.fault.Rule.TheVariants.{Class}
use Rattle.grammar.specs.declared.fault.Pass.TheVariants.{One}
use Rattle.grammar.specs.declared.fault.RuleFault.{RuleFault}
use Rattle.grammar.specs.declared.fault.MemberFault.{MemberFault}
use Rattle.grammar.specs.declared.fault.BatchFault.{BatchFault}
use Rattle.grammar.specs.Faults.{broken, in_no_member, in_class}

-- Rule 1.3: the super-class is a class declared before, and nothing has the name yet. The class joins with no members.
pub data Declares (T : List Node) (w : Contents) : ℕ → Contents → Type 0 where
  class : {p n s f m j : ℕ} → view T p ≡ DeclClass n s f m →
      type_env w.classes (symbol_at T s) ≡ Some (ClassType j) →
      type_env w.classes (symbol_at T n) ≡ None →
      Declares T w p (with_class w (symbol_at T n) j)

-- Rule 1.2: the classes from q to e, each with those before it declared.
pub data DeclaresAll (T : List Node) (e : ℕ) : Contents → ℕ → Contents → Type 0 where
  none : {w : Contents} → DeclaresAll T e w e w
  more : {w v u : Contents} {q : ℕ} → q < e → Declares T w q v → DeclaresAll T e v (end_of T q) u → DeclaresAll T e w q u

-- How rule 1.3 is broken first.
pub data BreaksClass (T : List Node) (w : Contents) : ℕ → RuleFault → Type 0 where
  no_super : {p n s f m : ℕ} → view T p ≡ DeclClass n s f m →
      ((j : ℕ) → type_env w.classes (symbol_at T s) ≢ Some (ClassType j)) →
      BreaksClass T w p (broken Class p)
  taken : {p n s f m j : ℕ} {t : Ty} → view T p ≡ DeclClass n s f m →
      type_env w.classes (symbol_at T s) ≡ Some (ClassType j) →
      type_env w.classes (symbol_at T n) ≡ Some t →
      BreaksClass T w p (broken Class n)

-- No member is around a class.
pub data BreaksAlone (T : List Node) (w : Contents) (p : ℕ) : MemberFault → Type 0 where
  alone : {b : RuleFault} → BreaksClass T w p b → BreaksAlone T w p (in_no_member b)

-- How pass one is broken first, from q to e. A class is around itself.
pub data BreaksOne (T : List Node) (e : ℕ) : Contents → ℕ → BatchFault → Type 0 where
  here : {w : Contents} {q n s f m : ℕ} {b : MemberFault} → q < e → view T q ≡ DeclClass n s f m → BreaksAlone T w q b →
      BreaksOne T e w q (in_class One (symbol_at T n) b)
  later : {w v : Contents} {q : ℕ} {b : BatchFault} → q < e → Declares T w q v → BreaksOne T e v (end_of T q) b → BreaksOne T e w q b

-- The classes from q to e are so few that a library of 32 classes has room for them.
pub record Room (T : List Node) (w : Contents) (q e : ℕ) : Type 0 where
  pub count : ℕ
  pub row : Row T OneClass count q e
  pub fits : length w.classes + count ≤ 32
