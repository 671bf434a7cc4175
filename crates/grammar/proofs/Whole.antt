-- The first two passes over a whole batch: what pass one leaves for pass two, and how a library is put back.
use Rattle.std.proofs.Common.{◌≡◌, ℕ, ◌+◌, List, length, refl, ap, ◌∙◌, subst, arith}
use Rattle.std.proofs.lemmas.List.{length-append, length_push, take_all, take_at}
use Rattle.table.specs.declared.kinds.Node.{Node}
use Rattle.table.specs.declared.kinds.Class.TheVariants.{OneClass}
use Rattle.parts.specs.Parts.{Row}
use Rattle.parts.proofs.Rows.{row_next, row_done}
use Rattle.library.specs.declared.counts.Counts.{Counts}
use Rattle.library.specs.declared.held.Library.{Library}
use Rattle.library.specs.Contents.{Contents, contents, with_nodes}
use Rattle.library.specs.Counting.{Untouched, counts_of, cut_to}
use Rattle.library.proofs.Kept.{same_contents}
use Rattle.grammar.specs.PassOne.{Declares, DeclaresAll, Room, class}
use Rattle.grammar.specs.PassOne.DeclaresAll.{none, more}
use Rattle.grammar.specs.Ready.{Numbered}

-- each class of a row takes one place, and pass one leaves members and nodes alone
pub record Left (w u : Contents) (n : ℕ) : Type 0 where
  pub classes : length u.classes ≡ length w.classes + n
  pub members : u.members ≡ w.members
  pub nodes : u.nodes ≡ w.nodes

one_left : {T : List Node} {w v : Contents} {p : ℕ} → Declares T w p v → Left w v 1
one_left {w = w} (class e s n) = record { classes = length_push w.classes _; members = refl; nodes = refl }

all_left : {T : List Node} {e q : ℕ} {w u : Contents} (n : ℕ) → Row T OneClass n q e → DeclaresAll T e w q u → Left w u n
all_left {T} {e} {q} n r none = record { classes = let d = (row_done T OneClass e n q r (omega arith)).1 in omega arith; members = refl; nodes = refl }
all_left {T} {e} {q} n r (more h d z) =
    let x = row_next T OneClass e n q r h in
    let a = one_left d in
    let b = all_left x.rest x.row z in
    record { classes = omega (arith, a.classes, b.classes, x.count); members = b.members ∙ a.members; nodes = b.nodes ∙ a.nodes }

module _ (l : Library) (T : List Node) where
  -- pass two finds the classes of the batch under the numbers that pass one gave them
  pub numbered : (u : Contents) (q e : ℕ) → Room T (contents l) q e → DeclaresAll T e (with_nodes (contents l) T) q u → Numbered T u (length (contents l).nodes) (length (contents l).classes) q e
  numbered u q e r d =
      let x = all_left r.count r.row d in
      let w = contents l in
      record {
        count = r.count;
        row = r.row;
        positive = omega (arith, l.ordered.some, l.classes.ok.0);
        known = omega (arith, x.classes);
        kept = omega (arith, ap length x.nodes, length-append w.nodes T);
        room = omega (arith, ap length x.members, l.few_members, l.members.ok.0, l.nodes.ok.0);
      }

  -- without what an extension added behind the old counts, the library is as it was
  pub put_back : (s : Counts) (u : Contents) → s ≡ counts_of (contents l) → cut_to s u ≡ cut_to s (with_nodes (contents l) T) → cut_to s u ≡ contents l
  put_back s u e t =
      let w = contents l in
      t ∙ ap (λ k. cut_to k (with_nodes w T)) e ∙
      same_contents (cut_to (counts_of w) (with_nodes w T)) w
      (take_all (length w.classes) w.classes (omega arith))
      (take_all (length w.classes) w.layouts (omega (arith, l.laid, l.classes.ok.0, l.layouts.ok.0)))
      (take_all (length w.members) w.members (omega arith))
      (take_at w.nodes T (length w.nodes) refl)
      (take_at w.attributes _ (length w.nodes) (omega (arith, l.noted, l.nodes.ok.0, l.attributes.ok.0)))

  pub members_left : (u : Contents) (q e : ℕ) → Room T (contents l) q e → DeclaresAll T e (with_nodes (contents l) T) q u → length u.members ≡ length (contents l).members
  members_left u q e r d = ap length (all_left r.count r.row d).members

  -- so it is after pass one, whatever that made of the classes, where the nodes were kept
  pub put_back_one : (s : Counts) (n u : Contents) → s ≡ counts_of (contents l) → n ≡ with_nodes (contents l) T → ((m : ℕ) → Untouched (length n.classes) m n u) → cut_to s u ≡ contents l
  put_back_one s n u e k h = put_back s u e (h s.members s (omega (arith, ap (λ x. x.classes) e, ap (λ x. length x.classes) k)) (omega arith) ∙ ap (cut_to s) k)

  -- and after pass two
  pub put_back_two : (s : Counts) (n u v : Contents) (q e : ℕ) → s ≡ counts_of (contents l) → n ≡ with_nodes (contents l) T → ((m : ℕ) → Untouched (length n.classes) m n u) → Room T (contents l) q e → DeclaresAll T e n q u → Untouched s.classes (length u.members) u v → cut_to s v ≡ contents l
  put_back_two s n u v q e c k h r d y =
      let m = members_left u q e r (subst (λ w. DeclaresAll T e w q u) k d) in
      y s (omega arith) (omega (arith, ap (λ x. x.members) c, m)) ∙ put_back_one s n u c k h
