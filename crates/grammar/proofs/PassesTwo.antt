-- Pass two up to some class.
use Rattle.std.proofs.Common.{◌≡◌, ℕ, suc, ◌+◌, ◌<◌, ◌≤◌, List, length, sym, refl, subst, arith}
use Rattle.std.proofs.lemmas.List.{length-append}
use Rattle.table.specs.Shape.{end_of}
use Rattle.table.specs.declared.kinds.Node.{Node}
use Rattle.table.specs.declared.kinds.Class.TheVariants.{OneClass}
use Rattle.parts.proofs.Rows.{row_next, row_done}
use Rattle.library.specs.Contents.{Contents}
use Rattle.library.specs.Counting.{Untouched}
use Rattle.library.proofs.Untouched.{untouched_trans}
use Rattle.grammar.specs.declared.fault.BatchFault.{BatchFault}
use Rattle.grammar.specs.Ready.{Numbered}
use Rattle.grammar.specs.PassTwo.{Completes, CompletesAll, BreaksTwo, class}
use Rattle.grammar.specs.PassTwo.CompletesAll.{none, more}
use Rattle.grammar.specs.PassTwo.BreaksTwo.{later}

completes_classes : {T : List Node} {n k p : ℕ} {w v : Contents} → Completes T n w k p v → v.classes ≡ w.classes
completes_classes (class e x c fs d ms a) = refl

completes_nodes : {T : List Node} {n k p : ℕ} {w v : Contents} → Completes T n w k p v → v.nodes ≡ w.nodes
completes_nodes (class e x c fs d ms a) = refl

completes_longer : {T : List Node} {n k p : ℕ} {w v : Contents} → Completes T n w k p v → length w.members ≤ length v.members
completes_longer {w = w} (class {F = F} {M = M} e x c fs d ms a) = simp length-append (omega arith)

module _ (T : List Node) (n e number first : ℕ) (start : Contents) where
  -- the classes before q are completed, and the next one has the number k
  pub record Completed (w : Contents) (k q : ℕ) : Type 0 where
    pub numbered : Numbered T w n k q e
    pub good : (u : Contents) → CompletesAll T n e w k q u → CompletesAll T n e start number first u
    pub bad : (f : BatchFault) → BreaksTwo T n e w k q f → BreaksTwo T n e start number first f
    pub later_number : number ≤ k
    pub longer : length start.members ≤ length w.members
    pub untouched : Untouched number (length start.members) start w

  pub completed_more : (w v : Contents) (k q : ℕ) → q < e → Completes T n w k q v → Untouched k (length w.members) w v → length v.members + q ≤ length w.members + end_of T q → Completed w k q → Completed v (k + 1) (end_of T q)
  completed_more w v k q h d t f p =
      let r = p.numbered in
      let x = row_next T OneClass e _ q r.row h in
      let s : k + 1 ≡ suc k = omega arith in
      record {
        numbered = record {
          count = x.rest;
          row = x.row;
          positive = omega arith;
          known = subst (λ cs. k + 1 + x.rest ≤ length cs) (sym (completes_classes d)) (omega (arith, r.known, x.count));
          kept = subst (λ ns. n + length T ≤ length ns) (sym (completes_nodes d)) r.kept;
          room = omega (arith, r.room, f);
        };
        good = λ u g. p.good u (more h d (subst (λ m. CompletesAll T n e v m (end_of T q) u) s g));
        bad = λ b g. p.bad b (later h d (subst (λ m. BreaksTwo T n e v m (end_of T q) b) s g));
        later_number = omega (arith, p.later_number);
        longer = omega (arith, p.longer, completes_longer d);
        untouched = untouched_trans _ _ _ _ start w v p.later_number p.longer p.untouched t;
      }

  pub completed_all : (w : Contents) (k q : ℕ) → e ≤ q → Completed w k q → CompletesAll T n e start number first w
  completed_all w k q h p = p.good w (subst (λ x. CompletesAll T n e w k x w) (sym (row_done T OneClass e _ q p.numbered.row h).0) none)
