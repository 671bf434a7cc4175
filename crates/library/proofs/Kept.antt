-- What the invariant of a library says of its lists.
use Rattle.std.proofs.Common.{◌≡◌, ℕ, ◌≤◌, List, [], ◌∷◌, ◌++◌, length, vec_items, subst, arith}
use Rattle.std.proofs.lemmas.Grind.{common_steps}
use Rattle.types.specs.Classes.{Ordered}
use Rattle.library.specs.declared.held.Library.{Library}
use Rattle.library.specs.declared.member.Layout.{Layout}
use Rattle.library.specs.Contents.{Contents}
use Rattle.library.specs.Members.{layout_at, Placed}

pub ordered : (l : Library) → Ordered (vec_items l.classes)
ordered l = l.ordered

pub placed_push : (ls : List Layout) (l : Layout) (m n : ℕ) → ((k : ℕ) → Placed (layout_at ls k) m) → m ≤ n → Placed l n → (k : ℕ) → Placed (layout_at (ls ++ l ∷ []) k) n
placed_push ls l m n h g p k = grind (arith, common_steps, h k)

pub same_contents : (v w : Contents) → v.classes ≡ w.classes → v.layouts ≡ w.layouts → v.members ≡ w.members → v.nodes ≡ w.nodes → v.attributes ≡ w.attributes → v ≡ w
same_contents v w a b c d e = λ i. record { classes = a i; layouts = b i; members = c i; nodes = d i; attributes = e i }

pub placed_in : (l : Library) (k : ℕ) → Placed (layout_at (vec_items l.layouts) k) (length (vec_items l.members))
placed_in l k = subst (Placed (layout_at (vec_items l.layouts) k)) l.members.ok.0 (l.placed k)
