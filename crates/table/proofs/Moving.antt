-- Views: how one is found, and that they move with the table, by the table alone, with no case for a kind.
use Rattle.std.proofs.Common.{◌≡◌, ℕ, ◌+◌, ◌<◌, ◌≤◌, List, ◌++◌, length, refl, ap, ◌∙◌, inl, inr, arith}
use Rattle.std.proofs.lemmas.List.{get_or_append_left, get_or-append-add}
use Rattle.std.proofs.lemmas.Bool.{cases_lt, lt-ltb, le-ltb}
use Rattle.std.proofs.Math.ListN.{get_or-map}
use Rattle.table.specs.Shape.{node_at, end_of}
use Rattle.table.specs.View.{view, past, heads, head_of, moved}
use Rattle.table.specs.declared.kinds.Node.{Node}
use Rattle.table.specs.declared.view.View.TheVariants.{Nothing}

-- the view, from a kind and places that were found one by one
pub view_from : (ns : List Node) (p n e b c d : ℕ) → n ≡ (node_at ns p).kind → e ≡ end_of ns p → b ≡ past ns e (p + 1) → c ≡ past ns e b → d ≡ past ns e c →
    head_of n (node_at ns p).word (p + 1) b c d e ≡ view ns p
unfolding view
view_from ns p n e b c d h i j k l = cc

head_moved : (k n w a b c d e : ℕ) → head_of n w (k + a) (k + b) (k + c) (k + d) (k + e) ≡ moved k (head_of n w a b c d e)
head_moved k n w a b c d e = get_or-map (moved k) (heads w a b c d e) n Nothing

module _ (P T S : List Node) where
  node_moved : (p : ℕ) → p < length T → node_at (P ++ (T ++ S)) (length P + p) ≡ node_at T p
  node_moved p h = get_or-append-add P (T ++ S) p _ ∙ get_or_append_left T S _ p h

  end_moved : (p : ℕ) → p < length T → end_of (P ++ (T ++ S)) (length P + p) ≡ length P + end_of T p
  end_moved p h = let e = ap (λ n. n.size) (node_moved p h) in omega (arith, e)

  past_moved : (e q : ℕ) → e ≤ length T → past (P ++ (T ++ S)) (length P + e) (length P + q) ≡ length P + past T e q
  past_moved e q l =
      elim (cases_lt q e) [
        | inl h ↦ rw (lt-ltb q e h, lt-ltb (length P + q) (length P + e) (omega arith)) (end_moved q (omega arith))
        | inr h ↦ rw (le-ltb q e h, le-ltb (length P + q) (length P + e) (omega arith)) refl
      ]

  pub view_moved : (p : ℕ) → p < length T → end_of T p ≤ length T → view (P ++ (T ++ S)) (length P + p) ≡ moved (length P) (view T p)
  unfolding view
  view_moved p h l =
      let k = length P in
      let e = end_of T p in
      let b = past T e (p + 1) in
      let s : k + p + 1 ≡ k + (p + 1) = omega arith in
      rw (end_moved p h, node_moved p h, s, past_moved e (p + 1) l, past_moved e b l, past_moved e (past T e b) l)
      (head_moved k (node_at T p).kind (node_at T p).word (p + 1) b (past T e b) (past T e (past T e b)) e)
