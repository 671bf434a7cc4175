-- What a store of rows uses and what it has left make up the whole. This stands in specs/ since a law's proof in src/ can cite nothing else.
use Rattle.std.specs.Prelude.{◌≡◌, ℕ, suc, ◌+◌, ◌≤◌, true, List, [], ◌∷◌, length, drop, vec_items, ◌==◌, refl}
use Rattle.std.proofs.Common.{sym, ap, subst, zero-add, arith, eqb-true}
use Rattle.std.proofs.lemmas.Bool.{and_parts}
use Rattle.std.proofs.lemmas.List.{length-take, length-drop}
use Rattle.values.specs.declared.value.Value.{Value}
use Rattle.store.specs.Model.{cells_used}
use Rattle.rows.specs.Tiles.{tiles}
use Rattle.rows.specs.Meaning.{cut, meaning}
use Rattle.store.specs.declared.head.Head.{Head}
use Rattle.rows.specs.declared.held.Rows.{Rows}

pub cut_length : (hs : List (Head ℕ)) (vs : List Value) → length (cut hs vs) ≡ length hs
cut_length [] vs = refl
cut_length (h ∷ hs) vs = ap suc (cut_length hs (drop h.count vs))

pub tiles_reach : (hs : List (Head ℕ)) (a e : ℕ) → tiles hs a e ≡ true → a ≤ e
tiles_reach [] a e t = let q = eqb-true a e t in omega arith
tiles_reach (h ∷ hs) a e t = let r = tiles_reach hs (a + h.count) e (and_parts (h.first == a) _ t).1 in omega arith

-- where the cells end, the records take them all
pub cut_used : (hs : List (Head ℕ)) (vs : List Value) (a : ℕ) → tiles hs a (a + length vs) ≡ true → cells_used (cut hs vs) ≡ length vs
cut_used [] vs a t = let q = eqb-true a (a + length vs) t in omega arith
cut_used (h ∷ hs) vs a t =
    let u = (and_parts (h.first == a) _ t).1 in
    let r = tiles_reach hs (a + h.count) (a + length vs) u in
    let d : a + h.count + length (drop h.count vs) ≡ a + length vs = simp length-drop (omega arith) in
    let s = cut_used hs (drop h.count vs) (a + h.count) (subst (λ e. tiles hs (a + h.count) e ≡ true) (sym d) u) in
    simp (length-take, s, length-drop) (omega arith)

pub tiled_at : {m n : ℕ} (s : Rows m n) → tiles (vec_items s.heads) 0 (length (vec_items s.cells)) ≡ true
tiled_at s = subst (λ k. tiles (vec_items s.heads) 0 k ≡ true) s.cells.ok.0 s.tiled

-- the same, as the length of what lies behind 0
pub tiled_from : {m n : ℕ} (s : Rows m n) → tiles (vec_items s.heads) 0 (0 + length (vec_items s.cells)) ≡ true
tiled_from s = subst (λ k. tiles (vec_items s.heads) 0 k ≡ true) (sym (zero-add (length (vec_items s.cells)))) (tiled_at s)

-- what is used and what is left make up the whole
pub records_counted : {m n : ℕ} (s : Rows m n) → length (meaning s).records + s.records_left ≡ m
records_counted s = omega (arith, cut_length (vec_items s.heads) (vec_items s.cells), s.heads.ok.0, s.records_kept)

pub cells_counted : {m n : ℕ} (s : Rows m n) → cells_used (meaning s).records + s.cells_left ≡ n
cells_counted s = omega (arith, cut_used (vec_items s.heads) (vec_items s.cells) 0 (tiled_from s), s.cells.ok.0, s.cells_kept)
