-- The children that a view names are those of its node, each at its place.
use Rattle.std.proofs.Common.{◌≡◌, ℕ, zero, suc, ◌+◌, ◌-◌, ◌≤◌, List, [], ◌∷◌, map, length, get_or, drop, sym, refl, ap, ◌∙◌, subst, arith}
use Rattle.std.proofs.lemmas.Bool.{lt-ltb}
use Rattle.std.proofs.Math.ListN.{get_or-map}
use Rattle.table.specs.Kinds.{KindRow, table, row}
use Rattle.table.specs.Shape.{Follow, Laid, node_at, end_of, children_of}
use Rattle.table.specs.View.{view, past, heads, head_of, named, Stand}
use Rattle.table.specs.declared.kinds.Node.{Node}
use Rattle.table.specs.declared.kinds.Class.{Class}
use Rattle.table.specs.declared.kinds.Kind.TheVariants.{Program}
use Rattle.table.specs.declared.kinds.Word.TheVariants.{Zero}
use Rattle.table.specs.declared.view.View.TheVariants.{Nothing, List as Elements}
use Rattle.table.proofs.Rows.{row_narrow}

abbrev paired : List Class → List ℕ → List (Class × ℕ)
paired [] qs = []
paired (c ∷ cs) [] = []
paired (c ∷ cs) (q ∷ qs) = (c, q) ∷ paired cs qs

abbrev children_at : ℕ → ℕ → ℕ → ℕ → KindRow → List (Class × ℕ)
children_at a b c d r = paired r.children (a ∷ b ∷ c ∷ d ∷ [])

-- every view names the children of its kind's row: one test over the whole table
rows_named : (w a b c d e : ℕ) → map named (drop 1 (heads w a b c d e)) ≡ map (children_at a b c d) table
rows_named w a b c d e = refl

head_named : (k w a b c d e : ℕ) → 1 ≤ k → named (head_of k w a b c d e) ≡ paired (children_of k) (a ∷ b ∷ c ∷ d ∷ [])
head_named zero w a b c d e h = absurd (omega arith)
head_named (suc k) w a b c d e h =
    let i : k ≡ suc k - 1 = omega arith in
    sym (get_or-map named (drop 1 (heads w a b c d e)) k Nothing) ∙
    ap (λ xs. get_or xs k []) (rows_named w a b c d e) ∙
    get_or-map (children_at a b c d) table k (row Program [] Zero) ∙
    ap (λ j. children_at a b c d (get_or table j (row Program [] Zero))) i

module _ (ns : List Node) (e : ℕ) where
  -- the places of n children from q on
  abbrev places : ℕ → ℕ → List ℕ
  places zero q = []
  places (suc n) q = q ∷ places n (past ns e q)

  stand : (n : ℕ) (cs : List Class) (q : ℕ) → length cs ≤ n → Follow ns e cs q → Stand ns e q (paired cs (places n q))
  stand n [] q h f = f
  stand zero (c ∷ cs) q h f = absurd (omega arith)
  stand (suc n) (c ∷ cs) q h f =
      let a = f.0.filled in
      let b = f.0.within in
      let t = lt-ltb q e (omega arith) in
      let s : past ns e q ≡ end_of ns q = rw t refl in
      (refl, f.0, subst (λ r. Stand ns e (end_of ns q) (paired cs (places n r))) (sym s) (stand n cs (end_of ns q) (omega arith) f.1))

pub view_stands : (ns : List Node) (p : ℕ) → Laid ns p → ((node_at ns p).kind ≡ 2 → ⊥) → Stand ns (end_of ns p) (p + 1) (named (view ns p))
unfolding view
view_stands ns p l n =
    let k = (node_at ns p).kind in
    let m = row_narrow k l.lowest l.highest in
    subst (Stand ns (end_of ns p) (p + 1)) (sym (head_named k _ _ _ _ _ _ l.lowest))
    (stand ns (end_of ns p) 4 (children_of k) (p + 1) m (l.children.1 n))

-- the elements of a List begin behind it and end with its part
pub view_list : (ns : List Node) (p : ℕ) → (node_at ns p).kind ≡ 2 → view ns p ≡ Elements (p + 1) (end_of ns p)
unfolding view
view_list ns p e =
    let b = past ns (end_of ns p) (p + 1) in
    let c = past ns (end_of ns p) b in
    ap (λ k. head_of k (node_at ns p).word (p + 1) b c (past ns (end_of ns p) c) (end_of ns p)) e
