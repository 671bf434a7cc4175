-- The number that digits write, digit by digit, and as a number of so many bits.
use Rattle.std.proofs.Common.{◌≡◌, ℕ, ◌+◌, ◌-◌, ◌*◌, ◌^◌, ◌<◌, ◌≤◌, suc, true, false, ◌&&◌, leb, List, [], ◌∷◌, length, Option, Some, None, MatchOption, Ok, Err, Result, MatchResult, inl, inr, refl, sym, subst, ap, arith}
use denote.Param.Members.{Mut, Called}
use denote.Ref.{Bor}
use Rattle.std.specs.Char.{is_ascii_digit}
use Rattle.std.specs.ControlFlow.{continue_value}
use Rattle.std.specs.declared.ops.ControlFlow.{ControlFlow}
use Rattle.std.specs.Iterator.{Yields, TryFoldTurn, TryFoldsItems}
use Rattle.std.specs.List.{list_all, FoldsTo}
use Rattle.std.specs.Slice.Iter.{iter_rest, iter_steps}
use Rattle.std.specs.declared.slice.Iter.{Iter}
use Rattle.std.specs.Result.{OkIff}
use Rattle.std.specs.Str.{all_ascii_digits}
use Rattle.std.specs.declared.num.TryFromIntError.{TryFromIntError}
use Rattle.std.proofs.lemmas.Bool.{MatchBool-at_true, MatchBool-at_false, cases_Bool, false_from_ne_true, leb-true, le-leb}
use Rattle.job.specs.Numbers.{plain, number_after, decimal_of, Fits, Reads}
use Rattle.job.specs.declared.wrong.Wrong.{Wrong}
use Rattle.job.specs.declared.wrong.Wrong.TheVariants.{NumberTooLarge, NotANumber}

pub digits_all : (w : List ℕ) → list_all is_ascii_digit w ≡ all_ascii_digits w
digits_all [] = refl
digits_all (b ∷ w) = ap (λ t. is_ascii_digit b && t) (digits_all w)

-- digits behind a number never make it smaller
grows : (n : ℕ) (w : List ℕ) → n ≤ number_after n w
grows n [] = omega arith
grows n (b ∷ w) = omega (arith, grows (10 * n + (b - 48)) w)

-- a step of f puts a digit behind a number, if the new number has 64 bits
abbrev pub PutsDigit : {F : Type 0} → Mut F (ℕ × (Bor ℕ × Unit {0})) (Option ℕ) → F → Type 0
PutsDigit {F} g f = (n : ℕ) (x : Bor ℕ) (v : Option ℕ) (f' : F) → Called g f (n, (x, tt)) v f' →
    (f' ≡ f) × MatchOption v (18446744073709551616 ≤ 10 * n + (x.now - 48)) (λ m. m ≡ 10 * n + (x.now - 48))

-- no digits leave a number as it is
ended : (n : ℕ) (w : List ℕ) → length w ≡ 0 → number_after n w ≡ n
ended n [] h = refl
ended n (b ∷ w) h = absurd (omega arith)

module _ {F : Type 0} (E : Type 0) (g : Mut F (ℕ × (Bor ℕ × Unit {0})) (Option ℕ)) (f : F) where
  abbrev goes : Option ℕ → ControlFlow E ℕ → Type 0
  goes v r = v ≡ continue_value r

  went : PutsDigit g f → (xs : List (Bor ℕ)) (s t : Iter ℕ) (n a : ℕ) (f' : F) → Yields iter_steps s xs t → FoldsTo {P = F × ℕ} (TryFoldTurn g goes) (f, n) xs (f', a) →
      (f' ≡ f) × (number_after n (iter_rest s) ≡ number_after a (iter_rest t))
  went h [] s t n a f' y z =
      let i = ap (λ (p : F × ℕ). p.0) z in
      let j = ap (λ (p : F × ℕ). p.1) z in
      (sym i, subst (λ s. number_after n (iter_rest s) ≡ number_after a (iter_rest t)) (sym y) (ap (λ k. number_after k (iter_rest t)) j))
  went h (x ∷ xs) s t n a f' (j, y, ys) (p, (v, c, b), z) =
      let k = h n x v p.0 c in
      let m = subst (λ v. MatchOption v (18446744073709551616 ≤ 10 * n + (x.now - 48)) (λ m. m ≡ 10 * n + (x.now - 48))) b k.1 in
      let r = went h xs j t p.1 a f' ys (subst (λ f. FoldsTo {P = F × ℕ} (TryFoldTurn g goes) (f, p.1) xs (f', a)) k.0 z) in
      (r.0, subst (λ ds. number_after n ds ≡ number_after a (iter_rest t)) (sym y) (subst (λ k. number_after k (iter_rest j) ≡ number_after a (iter_rest t)) m r.1))

  pub folded : (s u : Iter ℕ) (r : Option ℕ) → PutsDigit g f → TryFoldsItems iter_steps g goes (λ _ r. r ≡ None) s f 0 r u →
      MatchOption r (18446744073709551616 ≤ number_after 0 (iter_rest s)) (λ n. n ≡ number_after 0 (iter_rest s))
  folded s u r h (xs, None, f', a, (t, y, l), z, i) =
      let w = went h xs s t 0 a f' y z in
      let last : number_after a (iter_rest t) ≡ a = ended a (iter_rest t) l.0 in
      rw i (omega (arith, w.1, last))
  folded s u r h (xs, Some x, f', a, (t, y, l), z, (v, j, d, c, i, n)) =
      let w = went h xs s t 0 a f' y z in
      let p = h a x v j (subst (λ f. Called g f (a, (x, tt)) v j) w.0 c) in
      let big : 18446744073709551616 ≤ 10 * a + (x.now - 48) = subst (λ v. MatchOption v (18446744073709551616 ≤ 10 * a + (x.now - 48)) (λ m. m ≡ 10 * a + (x.now - 48))) i p.1 in
      let more : number_after a (iter_rest t) ≡ number_after a (x.now ∷ iter_rest u) = ap (number_after a) l in
      rw n (omega (arith, w.1, more, big, grows (10 * a + (x.now - 48)) (iter_rest u)))

-- the answer by a number of 64 bits, made to fit a type
pub fitted : {T E : Type 0} (gives : ℕ → Result T E → Type 0) (w : List ℕ) (f : Result T E) (r : Result T Wrong) → number_after 0 w < 2 ^ 64 → gives (number_after 0 w) f →
    MatchResult f (λ n. r ≡ Ok n) (λ e. r ≡ Err NumberTooLarge) → (read : Result T (Option E)) × Fits gives w read × MatchResult read (λ n. r ≡ Ok n) (λ e. r ≡ Err NumberTooLarge)
fitted gives w (Ok n) r small g e = (Ok n, (small, g), e)
fitted gives w (Err x) r small g e = (Err (Some x), (small, g), e)

-- what std says of a number's conversion to the unsigned type of k bits
abbrev pub Converts : ℕ → ℕ → Result ℕ TryFromIntError → Type 0
Converts k n r = OkIff r (n < 2 ^ k) n

module _ (k most : ℕ) (fits : 2 ^ k ≡ suc most) (small : most < 18446744073709551616) (w : List ℕ) (r : Result ℕ Wrong) where
  fitted_as : (read : Result ℕ (Option TryFromIntError)) → plain w ≡ true → Fits (Converts k) w read → MatchResult read (λ n. r ≡ Ok n) (λ e. r ≡ Err NumberTooLarge) → r ≡ decimal_of w most
  fitted_as (Ok n) p f e =
      let within : leb (number_after 0 w) most ≡ true = le-leb _ _ (omega (arith, f.1.0)) in
      let same = f.1.1 in
      cc
  fitted_as (Err None) p f e = let large : leb (number_after 0 w) most ≡ false = false_from_ne_true _ (λ t. omega (arith, f, leb-true _ _ t)) in cc
  fitted_as (Err (Some x)) p f e = let large : leb (number_after 0 w) most ≡ false = false_from_ne_true _ (λ t. f.1 (omega (arith, leb-true _ _ t))) in cc

  as_decimal : Reads (Fits (Converts k)) w r → r ≡ decimal_of w most
  as_decimal h =
      elim (cases_Bool (plain w)) [
        | inl p ↦ let at = MatchBool-at_true _ _ p h in fitted_as at.0 p at.1 at.2
        | inr n ↦ let e : r ≡ Err NotANumber = MatchBool-at_false _ _ n h in cc
      ]

pub as_u8 : (w : List ℕ) (r : Result ℕ Wrong) → Reads (Fits (Converts 8)) w r → r ≡ decimal_of w 255
as_u8 w r h = as_decimal 8 255 refl (omega arith) w r h

pub as_u16 : (w : List ℕ) (r : Result ℕ Wrong) → Reads (Fits (Converts 16)) w r → r ≡ decimal_of w 65535
as_u16 w r h = as_decimal 16 65535 refl (omega arith) w r h

pub as_u64 : (w : List ℕ) (r : Result ℕ Wrong) → Reads (Fits (Converts 64)) w r → r ≡ decimal_of w 18446744073709551615
as_u64 w r h = as_decimal 64 18446744073709551615 refl (omega arith) w r h
