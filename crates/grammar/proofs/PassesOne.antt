-- Pass one up to some class.
use Rattle.std.proofs.Common.{◌≡◌, ℕ, ◌+◌, ◌<◌, ◌≤◌, List, length, sym, subst, arith}
use Rattle.std.proofs.lemmas.List.{length_push}
use Rattle.table.specs.Shape.{end_of}
use Rattle.table.specs.declared.kinds.Node.{Node}
use Rattle.table.specs.declared.kinds.Class.TheVariants.{OneClass}
use Rattle.parts.proofs.Rows.{row_next, row_done}
use Rattle.library.specs.Contents.{Contents}
use Rattle.library.specs.Counting.{Untouched}
use Rattle.library.proofs.Untouched.{class_untouched, untouched_trans}
use Rattle.grammar.specs.declared.fault.BatchFault.{BatchFault}
use Rattle.grammar.specs.PassOne.{Declares, DeclaresAll, BreaksOne, Room, class, none, more, later}

declares_one_more : {T : List Node} {w v : Contents} {p : ℕ} → Declares T w p v → length v.classes ≡ length w.classes + 1
declares_one_more {w = w} (class e s n) = length_push w.classes _

declares_untouched : {T : List Node} {w v : Contents} {p : ℕ} → length w.layouts ≡ length w.classes → Declares T w p v → (m : ℕ) → Untouched (length w.classes) m w v
declares_untouched {w = w} l (class {j = j} e s n) m = class_untouched w _ j m l

module _ (T : List Node) (e first : ℕ) (start : Contents) where
  -- the classes before q are declared
  pub record Declared (w : Contents) (q : ℕ) : Type 0 where
    pub room : Room T w q e
    pub good : (u : Contents) → DeclaresAll T e w q u → DeclaresAll T e start first u
    pub bad : (f : BatchFault) → BreaksOne T e w q f → BreaksOne T e start first f
    pub longer : length start.classes ≤ length w.classes
    pub kept : (m : ℕ) → Untouched (length start.classes) m start w

  pub declared_more : (w v : Contents) (q : ℕ) → length w.layouts ≡ length w.classes → q < e → Declares T w q v → Declared w q → Declared v (end_of T q)
  declared_more w v q l h d p =
      let n = row_next T OneClass e _ q p.room.row h in
      let o = declares_one_more d in
      record {
        room = record { count = n.rest; row = n.row; fits = omega (arith, o, n.count, p.room.fits) };
        good = λ u g. p.good u (more h d g);
        bad = λ f b. p.bad f (later h d b);
        longer = omega (arith, o, p.longer);
        kept = λ m. untouched_trans _ m _ m start w v p.longer (omega arith) (p.kept m) (declares_untouched l d m);
      }

  pub declared_all : (w : Contents) (q : ℕ) → e ≤ q → Declared w q → DeclaresAll T e start first w
  declared_all w q h p = p.good w (subst (λ x. DeclaresAll T e w x w) (sym (row_done T OneClass e _ q p.room.row h).0) none)
