-- What a pass makes of a batch is settled: one result or one broken rule, and never both.
use Rattle.std.specs.Prelude.{◌≡◌, ℕ, List}
use Rattle.table.specs.declared.kinds.Node.{Node}
use Rattle.library.specs.Contents.{Contents}
use Rattle.grammar.specs.declared.fault.BatchFault.{BatchFault}
use Rattle.grammar.specs.PassOne.{DeclaresAll, BreaksOne}
use Rattle.grammar.specs.PassTwo.{CompletesAll, BreaksTwo}

pub record SettledOne (T : List Node) (e : ℕ) (w : Contents) (q : ℕ) : Type 0 where
  pub one_result : (u v : Contents) → DeclaresAll T e w q u → DeclaresAll T e w q v → u ≡ v
  pub one_fault : (f g : BatchFault) → BreaksOne T e w q f → BreaksOne T e w q g → f ≡ g
  pub one_way : (u : Contents) (f : BatchFault) → DeclaresAll T e w q u → BreaksOne T e w q f → ⊥

pub record SettledTwo (T : List Node) (n e : ℕ) (w : Contents) (k q : ℕ) : Type 0 where
  pub one_result : (u v : Contents) → CompletesAll T n e w k q u → CompletesAll T n e w k q v → u ≡ v
  pub one_fault : (f g : BatchFault) → BreaksTwo T n e w k q f → BreaksTwo T n e w k q g → f ≡ g
  pub one_way : (u : Contents) (f : BatchFault) → CompletesAll T n e w k q u → BreaksTwo T n e w k q f → ⊥
