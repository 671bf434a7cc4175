-- The first two passes decide: one result or one broken rule, and never both.
use Rattle.std.proofs.Common.{ℕ, List, length, Ok, Err, Result}
use Rattle.table.specs.declared.kinds.Node.{Node}
use Rattle.library.specs.Contents.{Contents, with_nodes}
use Rattle.grammar.specs.declared.fault.BatchFault.{BatchFault}
use Rattle.grammar.specs.PassOne.{DeclaresAll, BreaksOne}
use Rattle.grammar.specs.PassTwo.{CompletesAll, BreaksTwo}
use Rattle.grammar.specs.Passes.{Declared, Undeclared, Decided, declared, in_one, in_two}
use Rattle.grammar.proofs.OneParts.{ProgramParts, ListParts, program_parts_one, list_parts_one}
use Rattle.grammar.proofs.SettlesOne.{settled_one}
use Rattle.grammar.proofs.SettlesTwo.{settled_two}
use Rattle.grammar.proofs.Verdicts.{Single, Judged, Known, Then, good, bad, on, off, judged_one, known_one, then_one, settled}

module _ (T : List Node) (w : Contents) where
  abbrev First : ℕ × ℕ → Result Contents BatchFault → Type 0
  First l = Judged (DeclaresAll T l.1 (with_nodes w T) l.0) (BreaksOne T l.1 (with_nodes w T) l.0)

  abbrev Second : ℕ × ℕ → Contents → Result Contents BatchFault → Type 0
  Second l u = Judged (CompletesAll T (length w.nodes) l.1 u (length w.classes) l.0) (BreaksTwo T (length w.nodes) l.1 u (length w.classes) l.0)

  abbrev Verdict : Result Contents BatchFault → Type 0
  Verdict = Then (Known (ProgramParts T 0)) λ i. Then (Known (ListParts T i.0)) λ l. Then (First l) λ u. Second l u

  verdict_one : Single Verdict
  verdict_one =
      then_one _ _ (known_one _ (program_parts_one T 0)) λ i.
      then_one _ _ (known_one _ (list_parts_one T _)) λ l.
      then_one _ _ (let s = settled_one T l.1 (with_nodes w T) l.0 in judged_one _ _ s.one_result s.one_fault s.one_way) λ u.
      let s = settled_two T (length w.nodes) l.1 u (length w.classes) l.0 in judged_one _ _ s.one_result s.one_fault s.one_way

  accepts : (v : Contents) → Declared T w v → Verdict (Ok v)
  accepts v (declared p c d k) = on (good p) (on (good c) (on (good d) (good k)))

  breaks : (f : BatchFault) → Undeclared T w f → Verdict (Err f)
  breaks f (in_one p c b) = on (good p) (on (good c) (off (bad b)))
  breaks f (in_two p c d b) = on (good p) (on (good c) (on (good d) (bad b)))

  pub decided : Decided T w
  decided = let s = settled {G = Declared T w} {B = Undeclared T w} Verdict verdict_one accepts breaks in record { one_result = s.one_result; one_fault = s.one_fault; one_way = s.one_way }
