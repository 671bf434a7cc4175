-- The open parts: what closing one and opening one does to their count.
use Rattle.std.proofs.Common.{◌≡◌, ℕ, suc, ◌+◌, ◌-◌, ◌<◌, ◌≤◌, cond, ltb, count_by, Option, Some, None, option_to_list, IsSomeAnd, Result, Ok, Err, IsOk, OnOk, IsErrAnd, MatchResult, ◌↔◌, List, [], ◌∷◌, ◌++◌, length, get_or, refl, ◌∙◌, subst, inl, inr, add-one, arith}
use Rattle.std.proofs.lemmas.Bool.{cases_eq, lt-ltb, le-ltb}
use Rattle.std.proofs.lemmas.List.{length-append, get_or_append_left}
use Rattle.std.proofs.lemmas.List.Sums.{sum_by-append}
use Rattle.std.proofs.Math.Seq.{get_or-append_seam}
use Rattle.table.specs.Shape.{Laid, end_of, tally, depth}
use Rattle.table.specs.Open.{Opens}
use Rattle.table.specs.declared.kinds.Node.{Node}
use Rattle.table.specs.declared.shape.ShapeFault.{ShapeFault}
use Rattle.table.specs.declared.shape.ShapeFault.TheVariants.{Depth}
use borrow.Author.Tests.{clash}
use Rattle.table.proofs.Answered.{said_more}
use Rattle.table.proofs.Nest.{nests_before, laid_filled}

-- how many ends lie behind j: with one more of them, and where all do
count_more : (j : ℕ) (es : List ℕ) (e : ℕ) → count_by (ltb j) (es ++ e ∷ []) ≡ count_by (ltb j) es + cond (ltb j e) 1 0
count_more j es e = sum_by-append (λ x. cond (ltb j x) 1 0) es (e ∷ []) ∙ omega arith

count_all : (j : ℕ) (es : List ℕ) → ((i : ℕ) → i < length es → j < get_or es i 0) → count_by (ltb j) es ≡ length es
count_all j [] h = refl
count_all j (e ∷ es) h =
    let a = count_all j es (λ i k. h (suc i) (omega arith)) in
    let b = lt-ltb j e (h 0 (omega arith)) in
    let c = sum_by-append (λ x. cond (ltb j x) 1 0) (e ∷ []) es in
    let d = rw (b, a) at c in
    d ∙ omega arith

-- the innermost of the ends, if there is one, lies behind p
abbrev pub Behind : ℕ → List ℕ → Type 0
Behind p es = 0 < length es → p < get_or es (length es - 1) 0

module _ (ns : List Node) (p : ℕ) (es : List ℕ) where
  -- a part that ends at p or before it may be closed
  pub opens_closed : (e : ℕ) → Opens ns p (es ++ e ∷ []) → e ≤ p → Opens ns p es
  opens_closed e o l =
      let n = length-append es (e ∷ []) in
      let same = λ (i : ℕ) (k : i < length es). get_or_append_left es (e ∷ []) 0 i k in
      record {
        ends = λ i k. let x = o.ends i (omega arith) in let s = same i k in (x.0, x.1, omega arith);
        inward = λ i j a b. let x = o.inward i j a (omega arith) in let s = same i (omega arith) in let t = same j b in omega arith;
        counts = λ j k. let x = o.counts j k in let c = count_more j es e in let b = le-ltb j e (omega arith) in let d = rw b at c in omega arith;
      }

  -- so may the last of some, if it is such a part
  pub opens_popped : (old : List ℕ) (r : Option ℕ) → Opens ns p old → old ≡ es ++ option_to_list r → IsSomeAnd r (λ e. e ≤ p) → Opens ns p es
  opens_popped old None o d l = absurd l
  opens_popped old (Some e) o d l = opens_closed e (subst (Opens ns p) d o) l

  opens_above : Opens ns p es → Behind p es → (i : ℕ) → i < length es → p < get_or es i 0
  opens_above o h i k =
      let y = h (omega arith) in
      elim (cases_eq i (length es - 1)) [ inl e ↦ rw e y | inr e ↦ let x = o.inward i (length es - 1) (omega arith) (omega arith) in omega arith ]

  -- where all parts that are left are open at p, they are those around it
  pub opens_depth : Opens ns p es → Laid ns p → Behind p es → depth ns p ≡ length es + 1
  opens_depth o l h =
      let a = o.counts p (omega arith) ∙ count_all p es (opens_above o h) in
      let b = laid_filled ns p l in
      let c = lt-ltb p (end_of ns p) (omega arith) in
      rw (a, c) refl

  -- the part of p is opened
  pub opens_more : Opens ns p es → ((r : ℕ) → r < p → Laid ns r) → Behind p es → Opens ns (p + 1) (es ++ end_of ns p ∷ [])
  opens_more o g h = record { ends = ends; inward = inward; counts = counts }
    where
      long : length (es ++ end_of ns p ∷ []) ≡ length es + 1
      long = length-append es (end_of ns p ∷ [])

      top : get_or (es ++ end_of ns p ∷ []) (length es) 0 ≡ end_of ns p
      top = get_or-append_seam es (end_of ns p) [] 0

      below : (i : ℕ) → i < length es → get_or (es ++ end_of ns p ∷ []) i 0 ≡ get_or es i 0
      below i k = get_or_append_left es (end_of ns p ∷ []) 0 i k

      ends : (i : ℕ) → i < length (es ++ end_of ns p ∷ []) → (q : ℕ) × (q < p + 1) × (get_or (es ++ end_of ns p ∷ []) i 0 ≡ end_of ns q)
      ends i k =
          elim (cases_eq i (length es)) [
            | inl e ↦ (p, omega arith, rw e top)
            | inr e ↦ let m : i < length es = omega (arith, long) in let x = o.ends i m in (x.0, let y = x.1 in omega arith, below i m ∙ x.2)
          ]

      inward : (i j : ℕ) → i < j → j < length (es ++ end_of ns p ∷ []) → get_or (es ++ end_of ns p ∷ []) j 0 ≤ get_or (es ++ end_of ns p ∷ []) i 0
      inward i j a b =
          let m : i < length es = omega (arith, long) in
          let v = below i m in
          elim (cases_eq j (length es)) [
            | inl e ↦
                let x = o.ends i m in
                let y = opens_above o h i m in
                let z = nests_before ns x.0 p g x.1 (let w = x.2 in omega arith) in
                let u = x.2 in
                rw e (omega (arith, top))
            | inr e ↦ let n : j < length es = omega (arith, long) in let x = o.inward i j a n in let u = below j n in omega arith
          ]

      counts : (j : ℕ) → p + 1 ≤ j → tally (end_of ns) (p + 1) j ≡ count_by (ltb j) (es ++ end_of ns p ∷ [])
      counts j k =
          let a = o.counts j (omega arith) in
          let c : tally (end_of ns) (p + 1) j ≡ tally (end_of ns) p j + cond (ltb j (end_of ns p)) 1 0 = rw add-one refl in
          let d = count_more j es (end_of ns p) in
          cc

  -- whether the part of p was opened, by whether there was room for its end, and what is told of it
  pub entered : {A E : Type 0} (r : Result A E) (s : Result A ShapeFault) (xs : List ℕ) (Made : E → ShapeFault → Type 0) → ((e : E) (f : ShapeFault) → Made e f → f ≡ Depth p) →
      MatchResult r (λ x. s ≡ Ok x) (λ e. IsErrAnd s (Made e)) → IsOk r ↔ (depth ns p ≤ 64) → OnOk r (xs ≡ es ++ end_of ns p ∷ []) →
      Opens ns (p + 1) (es ++ end_of ns p ∷ []) →
      MatchResult s (λ _. (depth ns p ≤ 64) × Opens ns (p + 1) xs) (λ f. (f ≡ Depth p) × (64 < depth ns p))
  entered (Ok x) s xs Made m e v k o = let l = v.0 refl in rw e (l, rw k o)
  entered (Err x) (Ok y) xs Made m e v k o = absurd e
  entered (Err x) (Err f) xs Made m e v k o = (m x f e, said_more (depth ns p) 64 (λ t. absurd (clash t), v.1))
