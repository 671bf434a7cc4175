-- The elements of a list, by the word that it has.
use Rattle.std.proofs.Common.{◌≡◌, ℕ, ◌+◌, ◌≤◌, List, replicate, subst, arith}
use Rattle.table.specs.Kinds.{list_row_of}
use Rattle.table.specs.Shape.{Formed, Follow, node_at, end_of}
use Rattle.table.specs.declared.kinds.Node.{Node}
use Rattle.table.specs.declared.kinds.Class.TheVariants.{ListOf}
use Rattle.parts.specs.Parts.{Holds}
use Rattle.parts.proofs.Known.{kind_between, list_word}

pub list_holds : (T : List Node) (p : ℕ) → Formed T → Holds T p (p + 1) (end_of T p)
list_holds T p f l i =
    let b = kind_between (ListOf l) (node_at T p) i.admitted in
    let k : (node_at T p).kind ≡ 2 = omega (arith, b.0, b.1) in
    let g = f.laid p i.within in
    let m = subst (λ w. (n : ℕ) × (n ≤ (list_row_of w).most) × Follow T (end_of T p) (replicate n (list_row_of w).element) (p + 1)) (list_word l (node_at T p) i.admitted) (g.children.0 k).elements in
    (m.0, m.1, record { within = g.within; follow = m.2 })
