-- A table is formed in one way at most, so that a type can hold the fact.
use Rattle.std.specs.Prelude.{◌≡◌, ℕ, zero, suc, ◌<◌, ◌≤◌, List, [], ◌∷◌, replicate}
use Rattle.std.specs.Coded.{×_prop, Π_prop, →_prop, le_prop}
use Rattle.std.proofs.Common.{refl, ap, sym, subst, add-zero}
use Rattle.std.proofs.Math.Nat.{le_refl, lt_irrefl, lt_of_lt_of_le, add-lt-add_of_le_of_lt}
use mathlib.Core.Bool.{Bool-set}
use mathlib.Core.HLevel.{Σ_prop_path}
use native.Mathlib.Nat.{ℕ_set}
use Rattle.table.specs.Shape.{Child, Follow, Elements, Listing, Laid, Rooted, Few, Formed, end_of}
use Rattle.table.specs.declared.kinds.Node.{Node}
use Rattle.table.specs.declared.kinds.Class.{Class}

module _ (T : List Node) where
  Child-prop : (e : ℕ) (c : Class) (q : ℕ) → IsProp (Child T e c q)
  Child-prop e c q a b = λ i. record { admitted = Bool-set _ _ a.admitted b.admitted i; filled = le_prop a.filled b.filled i; within = le_prop a.within b.within i }

  Follow-prop : (e : ℕ) (cs : List Class) (q : ℕ) → IsProp (Follow T e cs q)
  Follow-prop e [] q = ℕ_set q e
  Follow-prop e (c ∷ cs) q = ×_prop (Child-prop e c q) (Follow-prop e cs (end_of T q))

  -- a child takes some place
  before_end : (e : ℕ) (c : Class) (q : ℕ) → Child T e c q → q < e
  before_end e c q a = lt_of_lt_of_le (subst (λ n. n < end_of T q) (add-zero q) (add-lt-add_of_le_of_lt (le_refl q) a.filled)) a.within

  -- so no row of children is of two lengths
  one_count : (e : ℕ) (c : Class) (j k q : ℕ) → Follow T e (replicate j c) q → Follow T e (replicate k c) q → j ≡ k
  one_count e c zero zero q f g = refl
  one_count e c zero (suc k) q f g = absurd (lt_irrefl q (subst (λ n. q < n) (sym f) (before_end e c q g.0)))
  one_count e c (suc j) zero q f g = absurd (lt_irrefl q (subst (λ n. q < n) (sym g) (before_end e c q f.0)))
  one_count e c (suc j) (suc k) q f g = ap suc (one_count e c j k (end_of T q) f.1 g.1)

  Elements-prop : (e : ℕ) (c : Class) (m q : ℕ) → IsProp (Elements T e c m q)
  Elements-prop e c m q a b =
      let pairs : ◌≡◌ {A = (k : ℕ) × ((k ≤ m) × Follow T e (replicate k c) q)} (a.0, (a.1, a.2)) (b.0, (b.1, b.2)) =
      Σ_prop_path (λ k. ×_prop le_prop (Follow-prop e (replicate k c) q)) (one_count e c a.0 b.0 q a.2 b.2)
      in ap (λ z. (z.0, z.1.0, z.1.1)) pairs

  Listing-prop : (w q e : ℕ) → IsProp (Listing T w q e)
  Listing-prop w q e a b = λ i. record { lowest = le_prop a.lowest b.lowest i; highest = le_prop a.highest b.highest i; elements = Elements-prop _ _ _ _ a.elements b.elements i }

  Laid-prop : (p : ℕ) → IsProp (Laid T p)
  Laid-prop p a b = λ i.
      record {
        lowest = le_prop a.lowest b.lowest i;
        highest = le_prop a.highest b.highest i;
        within = le_prop a.within b.within i;
        children = ×_prop (→_prop (Listing-prop _ _ _)) (→_prop (Follow-prop _ _ _)) a.children b.children i;
      }

  Few-prop : IsProp (Few T)
  Few-prop a b = λ i. record { least = le_prop a.least b.least i; most = le_prop a.most b.most i }

  Rooted-prop : IsProp (Rooted T)
  Rooted-prop a b = λ i. record { program = ℕ_set _ _ a.program b.program i; whole = ℕ_set _ _ a.whole b.whole i }

  pub Formed-prop : IsProp (Formed T)
  Formed-prop a b = λ i.
      record {
        few = Few-prop a.few b.few i;
        root = Rooted-prop a.root b.root i;
        laid = Π_prop (λ p. →_prop (Laid-prop p)) a.laid b.laid i;
        worded = Π_prop (λ p. →_prop (Bool-set _ _)) a.worded b.worded i;
        shallow = Π_prop (λ p. →_prop le_prop) a.shallow b.shallow i;
        filled = Π_prop (λ p. →_prop le_prop) a.filled b.filled i;
        nests = Π_prop (λ p. Π_prop (λ q. →_prop (→_prop le_prop))) a.nests b.nests i;
      }
