-- Children that follow one another: one more of them, and none left.
use Rattle.std.proofs.Common.{◌≡◌, ℕ, zero, suc, ◌+◌, List, [], ◌∷◌, Bool, false, ◌==◌, length, Option, Some, None, MatchOption, Decides, sym, ap, ◌∙◌, subst, arith}
use Rattle.std.proofs.lemmas.Bool.{eqb-true}
use Rattle.std.proofs.lemmas.Bool.Decides.{nat_tests}
use borrow.Author.Tests.{clash}
use denote.Param.Members.{Mut, Called}
use denote.Ref.{Bor}
use Rattle.std.specs.ControlFlow.{continue_value}
use Rattle.std.specs.declared.ops.ControlFlow.{ControlFlow}
use Rattle.std.specs.Iterator.{Yields, TryFoldTurn, TryFoldsItems}
use Rattle.std.specs.List.{FoldsTo}
use Rattle.std.specs.Slice.Iter.{iter_rest, iter_steps}
use Rattle.std.specs.declared.slice.Iter.{Iter}
use Rattle.table.specs.Shape.{Child, Follow, Elements, end_of}
use Rattle.table.specs.declared.kinds.Node.{Node}
use Rattle.table.specs.declared.kinds.Class.{Class}

module _ (ns : List Node) (e : ℕ) (c : Class) (m n q : ℕ) where
  -- one child, and at most m behind it
  pub elements_more : n ≡ m + 1 → Child ns e c q → Elements ns e c m (end_of ns q) → Elements ns e c n q
  elements_more h c f = (suc f.0, let l = f.1 in omega arith, (c, f.2))

  -- where there is room behind q, at most m + 1 elements are one child, and at most m behind it
  pub elements_less : n ≡ m + 1 → ((q ≡ e) → ⊥) → Elements ns e c n q → Child ns e c q × Elements ns e c m (end_of ns q)
  elements_less h r (zero, l, f) = absurd (r f)
  elements_less h r (suc k, l, f) = (f.0, (k, omega arith, f.1))

-- a step of f goes from a child of the next class to the position behind it
abbrev pub Steps : {F : Type 0} → List Node → ℕ → Mut F (ℕ × (Bor Class × Unit {0})) (Option ℕ) → F → Type 0
Steps {F} ns e g f = (q : ℕ) (x : Bor Class) (v : Option ℕ) (f' : F) → Called g f (q, (x, tt)) v f' →
    (f' ≡ f) × MatchOption v (Child ns e x.now q → ⊥) (λ n. Child ns e x.now q × (n ≡ end_of ns q))

module _ (ns : List Node) (e : ℕ) {F : Type 0} (E : Type 0) (g : Mut F (ℕ × (Bor Class × Unit {0})) (Option ℕ)) (f : F) where
  abbrev goes : Option ℕ → ControlFlow E ℕ → Type 0
  goes v r = v ≡ continue_value r

  went : Steps ns e g f → (xs : List (Bor Class)) (s t : Iter Class) (q a : ℕ) (f' : F) → Yields iter_steps s xs t → FoldsTo {P = F × ℕ} (TryFoldTurn g goes) (f, q) xs (f', a) →
      (f' ≡ f) × (Follow ns e (iter_rest t) a → Follow ns e (iter_rest s) q) × (Follow ns e (iter_rest s) q → Follow ns e (iter_rest t) a)
  went h [] s t q a f' y z =
      let i = ap (λ (p : F × ℕ). p.0) z in
      let j = ap (λ (p : F × ℕ). p.1) z in (
        sym i,
        λ w. subst (λ s. Follow ns e (iter_rest s) q) (sym y) (subst (Follow ns e (iter_rest t)) (sym j) w),
        λ w. subst (Follow ns e (iter_rest t)) j (subst (λ s. Follow ns e (iter_rest s) q) y w),
      )
  went h (x ∷ xs) s t q a f' (j, y, ys) (p, (v, c, b), z) =
      let k = h q x v p.0 c in
      let m = subst (λ v. MatchOption v (Child ns e x.now q → ⊥) (λ n. Child ns e x.now q × (n ≡ end_of ns q))) b k.1 in
      let r = went h xs j t p.1 a f' ys (subst (λ f. FoldsTo {P = F × ℕ} (TryFoldTurn g goes) (f, p.1) xs (f', a)) k.0 z) in (
        r.0,
        λ w. subst (λ cs. Follow ns e cs q) (sym y) (m.0, subst (Follow ns e (iter_rest j)) m.1 (r.1 w)),
        λ w. r.2 (subst (Follow ns e (iter_rest j)) (sym m.1) (subst (λ cs. Follow ns e cs q) y w).1),
      )

  ended : (s : Iter Class) (a : ℕ) → length (iter_rest s) ≡ 0 → (a ≡ e → Follow ns e (iter_rest s) a) × (Follow ns e (iter_rest s) a → a ≡ e)
  ended s a h = go (iter_rest s) h
    where
      go : (cs : List Class) → length cs ≡ 0 → (a ≡ e → Follow ns e cs a) × (Follow ns e cs a → a ≡ e)
      go [] h = (λ w. w, λ w. w)
      go (c ∷ cs) h = absurd (omega arith)

  pub follows : (s u : Iter Class) (q : ℕ) (r : Option ℕ) (b : Bool) (P : ℕ → Type 0) → Steps ns e g f →
      TryFoldsItems iter_steps g goes (λ _ r. r ≡ None) s f q r u → MatchOption r (b ≡ false) P → ((a : ℕ) → P a → b ≡ (a == e)) → Decides b (Follow ns e (iter_rest s) q)
  follows s u q r b P h (xs, None, f', a, (t, y, l), z, i) m k =
      let w = went h xs s t q a f' y z in
      let n = ended t a l.0 in
      let o = k a (subst (λ r. MatchOption r (b ≡ false) P) i m) in
      (λ d. w.1 (n.0 (eqb-true a e (sym o ∙ d))), λ d. let x = n.1 (w.2 d) in grind (arith, nat_tests))
  follows s u q r b P h (xs, Some x, f', a, (t, y, l), z, (v, j, d, c, i, n)) m k =
      let w = went h xs s t q a f' y z in
      let o = subst (λ r. MatchOption r (b ≡ false) P) n m in
      let p = h a x v j (subst (λ f. Called g f (a, (x, tt)) v j) w.0 c) in
      let no = subst (λ v. MatchOption v (Child ns e x.now a → ⊥) (λ n. Child ns e x.now a × (n ≡ end_of ns a))) i p.1 in
      (λ d. absurd (clash (sym o ∙ d)), λ d. absurd (no (subst (λ cs. Follow ns e cs a) l (w.2 d)).0))
