-- Parts are not empty, and lie in the parts around them.
use Rattle.std.proofs.Common.{◌≡◌, ℕ, zero, suc, ◌+◌, ◌<◌, ◌≤◌, ◌⊎◌, List, [], ◌∷◌, replicate, subst, inl, inr, arith}
use Rattle.std.proofs.lemmas.Bool.{cases_eq, cases_lt}
use Rattle.table.specs.Shape.{Follow, Laid, node_at, end_of}
use Rattle.table.specs.declared.kinds.Node.{Node}
use Rattle.table.specs.declared.kinds.Class.{Class}

module _ (ns : List Node) where
  -- the children of a node, whatever its kind
  pub some_follow : (p : ℕ) → Laid ns p → (cs : List Class) × Follow ns (end_of ns p) cs (p + 1)
  some_follow p l = go (cases_eq (node_at ns p).kind 2)
    where
      go : ((node_at ns p).kind ≡ 2) ⊎ ((node_at ns p).kind ≡ 2 → ⊥) → (cs : List Class) × Follow ns (end_of ns p) cs (p + 1)
      go (inl e) = let m = (l.children.0 e).elements in (replicate m.0 _, m.2)
      go (inr n) = (_, l.children.1 n)

  follow_reaches : (e : ℕ) (cs : List Class) (q : ℕ) → Follow ns e cs q → q ≤ e
  follow_reaches e [] q f = omega arith
  follow_reaches e (c ∷ cs) q f = let a = f.0.filled in let b = f.0.within in omega arith

  pub laid_filled : (p : ℕ) → Laid ns p → 0 < (node_at ns p).size
  laid_filled p l = let f = some_follow p l in let h = follow_reaches (end_of ns p) f.0 (p + 1) f.1 in omega arith

  -- a position from a on, before e, lies in the part of one of the children that follow there
  record Inside (a e q : ℕ) : Type 0 where
    child : ℕ
    from : a ≤ child
    start : child ≤ q
    stop : q < end_of ns child
    within : end_of ns child ≤ e

  inside : (e : ℕ) (cs : List Class) (a q : ℕ) → Follow ns e cs a → a ≤ q → q < e → Inside a e q
  inside e [] a q f h k = absurd (omega arith)
  inside e (c ∷ cs) a q f h k =
      elim (cases_lt q (end_of ns a)) [
        | inl l ↦ record { child = a; from = omega arith; start = h; stop = l; within = f.0.within }
        | inr g ↦
            let x = inside e cs (end_of ns a) q f.1 g k in
            record { child = x.child; from = let y = x.from in omega arith; start = x.start; stop = x.stop; within = x.within }
      ]

  nests_by : (n p q : ℕ) → (node_at ns p).size ≤ n → ((r : ℕ) → r < q → Laid ns r) → p < q → q < end_of ns p → end_of ns q ≤ end_of ns p
  nests_by zero p q s l h k = absurd (omega arith)
  nests_by (suc n) p q s l h k =
      let f = some_follow p (l p h) in
      let x = inside (end_of ns p) f.0 (p + 1) q f.1 (omega arith) k in
      let a = x.from in
      let b = x.start in
      let w = x.within in
      elim (cases_eq x.child q) [
        | inl e ↦ subst (λ c. end_of ns c ≤ end_of ns p) e w
        | inr e ↦ let r = nests_by n x.child q (omega arith) l (omega arith) x.stop in omega arith
      ]

  -- where all before q are laid out, the part of q lies in each part that q lies in
  pub nests_before : (p q : ℕ) → ((r : ℕ) → r < q → Laid ns r) → p < q → q < end_of ns p → end_of ns q ≤ end_of ns p
  nests_before p q = nests_by (node_at ns p).size p q (omega arith)
