-- The first word of a text, by the runs of spaces and of other bytes in its front.
use Rattle.std.proofs.Common.{add-zero, Some, None, unwrap_or, cond, ◌≡◌, ℕ, zero, suc, ◌+◌, ◌<◌, Bool, true, false, not, eqb, List, [], ◌∷◌, ◌++◌, length, get_or, take, drop, sym, refl, ap, ◌∙◌, subst, ⊎_elim, one-add, arith}
use Rattle.std.specs.List.{position, position_or_len, prefix_len, AllByRecursion}
use Rattle.std.proofs.lemmas.List.{get_or-drop, append-nil, append_assoc, length-take-le, length-drop, take-append-drop, nil_from_length}
use Rattle.std.proofs.lemmas.List.Quantifiers.{position-Some}
use Rattle.std.proofs.lemmas.Bool.Decides.{nat_tests}
use Rattle.std.proofs.lemmas.List.Sums.{passes_at_first, position_or_len_is, prefix_len-drop_yes, prefix_len-le-length}
use Rattle.std.proofs.lemmas.Bool.{cases_Bool, cases_lt, eqb-true, eqb-false, not-true, cond-true, cond-false, not_from_true, not_from_false}
use Rattle.job.specs.Words.{ended, words_after, words_of, First, Cut}

abbrev pub space : ℕ → Bool
space b = eqb b 32

abbrev pub other : ℕ → Bool
other b = not (eqb b 32)

drop_one : (b : ℕ) (s : List ℕ) (n : ℕ) → drop (1 + n) (b ∷ s) ≡ drop n s
drop_one b s n = ap (λ k. drop k (b ∷ s)) (one-add n)

take_one : (b : ℕ) (s : List ℕ) (n : ℕ) → take (1 + n) (b ∷ s) ≡ b ∷ take n s
take_one b s n = ap (λ k. take k (b ∷ s)) (one-add n)

skip_spaces : (s : List ℕ) → words_of s ≡ words_of (drop (prefix_len space s) s)
skip_spaces [] = refl
skip_spaces (b ∷ s) =
    ⊎_elim
    (λ e. cond-true (space b) (words_of s) (words_after (b ∷ []) s) e ∙ skip_spaces s ∙ sym (ap words_of (ap (λ n. drop n (b ∷ s)) (cond-true (space b) (1 + prefix_len space s) 0 e) ∙ drop_one b s (prefix_len space s))))
    (λ e. sym (ap (λ n. words_of (drop n (b ∷ s))) (cond-false (space b) (1 + prefix_len space s) 0 e)))
    (cases_Bool (space b))

-- what is no space in front is a word, or the rest of one
run : (w s : List ℕ) → words_after w s ≡ ended (w ++ take (prefix_len other s) s) ++ words_of (drop (prefix_len other s) s)
run w [] = sym (append-nil (ended (w ++ [])) ∙ ap ended (append-nil w))
run w (b ∷ s) =
    ⊎_elim
    (λ e.
    let n = cond-false (other b) (1 + prefix_len other s) 0 (not_from_true (space b) e) in
    let front = ap (λ n. take n (b ∷ s)) n in
    let back = ap (λ n. drop n (b ∷ s)) n in
    let here = cond-true (space b) (words_of s) (words_after (b ∷ []) s) e in
    cond-true (space b) (ended w ++ words_of s) (words_after (w ++ b ∷ []) s) e
    ∙ ap (λ v. ended v ++ words_of s) (sym (append-nil w))
    ∙ ap (λ t. ended (w ++ []) ++ t) (sym here)
    ∙ sym (λ i. ended (w ++ front i) ++ words_of (back i)))
    (λ e.
    let n = cond-true (other b) (1 + prefix_len other s) 0 (not_from_false (space b) e) in
    let front = ap (λ n. take n (b ∷ s)) n ∙ take_one b s (prefix_len other s) in
    let back = ap (λ n. drop n (b ∷ s)) n ∙ drop_one b s (prefix_len other s) in
    cond-false (space b) (ended w ++ words_of s) (words_after (w ++ b ∷ []) s) e
    ∙ run (w ++ b ∷ []) s
    ∙ ap (λ v. ended v ++ words_of (drop (prefix_len other s) s)) (append_assoc w (b ∷ []) (take (prefix_len other s) s))
    ∙ sym (λ i. ended (w ++ front i) ++ words_of (back i)))
    (cases_Bool (space b))

not_twice : (t : Bool) → not (not t) ≡ t
not_twice true = refl
not_twice false = refl

spaces : (s : List ℕ) → position_or_len other s ≡ prefix_len space s
spaces [] = refl
spaces (b ∷ s) = λ i. cond (not_twice (space b) i) (1 + spaces s i) 0

-- behind the spaces in front, a word begins
begins : (s : List ℕ) → prefix_len space s < length s → 0 < prefix_len other (drop (prefix_len space s) s)
begins s h =
    let n = spaces s in
    let yes = ap (λ k. other (get_or s k 0)) (sym n) ∙ passes_at_first other s 0 (omega (arith, n)) in
    omega (arith, prefix_len-drop_yes other s (prefix_len space s) 0 h yes)

ended_some : (w : List ℕ) → 0 < length w → ended w ≡ w ∷ []
ended_some [] h = absurd (omega arith)
ended_some (b ∷ w) h = refl

no_word : (s t : List ℕ) → t ≡ drop (prefix_len space s) s → length t ≡ 0 → words_of s ≡ []
no_word s t e h = skip_spaces s ∙ ap words_of (sym e ∙ nil_from_length t h)

first_word : (s t w r : List ℕ) → t ≡ drop (prefix_len space s) s → 0 < length t → w ≡ take (prefix_len other t) t → r ≡ drop (prefix_len other t) t → words_of s ≡ w ∷ words_of r
first_word s t w r e h front back =
    let more : 0 < prefix_len other t = omega (arith, begins s (omega (arith, ap length e, length-drop (prefix_len space s) s)), ap (prefix_len other) e) in
    let long = ap length front ∙ length-take-le (prefix_len other t) t (prefix_len-le-length other t) in
    let some = ended_some w (omega (arith, long)) in
    skip_spaces s ∙ ap words_of (sym e) ∙ run [] t ∙ sym (λ i. ended (front i) ++ words_of (back i)) ∙ ap (λ v. v ++ words_of r) some

-- where a search ends, if it finds a place
found : (p : ℕ → Bool) (s : List ℕ) (at : ℕ) → position p s ≡ Some at → (position_or_len p s ≡ at) × (at < length s)
found p s at e = let h = position-Some p s at 0 e in (position_or_len_is p s at 0 (omega (arith, h.0)) h.2 (λ _. h.1), h.0)

pub found_or_end : {X : Type 0} (p : X → Bool) (s : List X) → unwrap_or (position p s) (length s) ≡ position_or_len p s
found_or_end p s = grind (arith, nat_tests, prefix_len-le-length (λ x. not (p x)) s)

pub no_word_at : (s : List ℕ) → position other s ≡ None → words_of s ≡ []
no_word_at s e = no_word s (drop (prefix_len space s) s) refl (grind (arith, nat_tests, spaces s, length-drop (prefix_len space s) s))

pub word_at : (s t w r : List ℕ) (start : ℕ) → position other s ≡ Some start → t ≡ drop start s → w ≡ take (unwrap_or (position space t) (length t)) t → r ≡ drop (unwrap_or (position space t) (length t)) t → words_of s ≡ w ∷ words_of r
word_at s t w r start e text front back =
    let at = found other s start e in
    let begins = sym at.0 ∙ spaces s in
    let some : 0 < length t = omega (arith, ap length text, length-drop start s, at.1) in
    let end = found_or_end space t in
    first_word s t w r (text ∙ ap (λ n. drop n s) begins) some (front ∙ ap (λ n. take n t) end) (back ∙ ap (λ n. drop n t) end)

module _ (p : ℕ → Bool) where
  run_all : (P : ℕ → Type 0) → ((b : ℕ) → p b ≡ true → P b) → (s : List ℕ) → AllByRecursion P (take (prefix_len p s) s)
  run_all P each [] = tt
  run_all P each (b ∷ s) =
      ⊎_elim
      (λ e. subst (AllByRecursion P) (sym (ap (λ n. take n (b ∷ s)) (cond-true (p b) (1 + prefix_len p s) 0 e) ∙ take_one b s (prefix_len p s))) (each b e, run_all P each s))
      (λ e. subst (AllByRecursion P) (sym (ap (λ n. take n (b ∷ s)) (cond-false (p b) (1 + prefix_len p s) 0 e))) tt)
      (cases_Bool (p b))

blank_run : (s : List ℕ) → AllByRecursion (λ b. b ≡ 32) (take (prefix_len space s) s)
blank_run s = run_all space (λ b. b ≡ 32) (λ b e. eqb-true b 32 e) s

cut_within : (n : ℕ) (s : List ℕ) → length s < n → Cut s (words_of s)
cut_within zero s h = absurd (omega arith)
cut_within (suc n) s h =
    let t = drop (prefix_len space s) s in
    let k = prefix_len other t in
    ⊎_elim
    (λ some.
    let w = take k t in
    let r = drop k t in
    let more : 0 < k = begins s (omega (arith, some, length-drop (prefix_len space s) s)) in
    let long = length-take-le k t (prefix_len-le-length other t) in
    let first : First s w r = record {
      gap = take (prefix_len space s) s;
      parts = sym (take-append-drop (prefix_len space s) s) ∙ ap (λ l. take (prefix_len space s) s ++ l) (sym (take-append-drop k t));
      blank = blank_run s;
      some = omega arith;
      solid = run_all other (λ b. b ≡ 32 → ⊥) (λ b e. eqb-false b 32 (not-true (space b) e)) t;
      ends = λ on. get_or-drop k t 0 0 ∙ ap (λ i. get_or t i 0) (add-zero k) ∙ eqb-true (get_or t k 0) 32 (passes_at_first space t 0 (omega (arith, on, length-drop k t)));
    } in
    subst (Cut s) (sym (first_word s t w r refl some refl refl)) (r, first, cut_within n r (omega (arith, length-drop k t, length-drop (prefix_len space s) s))))
    (λ none.
    let whole = ap (λ l. take (prefix_len space s) s ++ l) (sym (nil_from_length t (omega arith))) ∙ take-append-drop (prefix_len space s) s in
    subst (Cut s) (sym (no_word s t refl (omega arith))) (subst (AllByRecursion (λ b. b ≡ 32)) (sym (append-nil (take (prefix_len space s) s)) ∙ whole) (blank_run s)))
    (cases_lt 0 (length t))

pub cut : (s : List ℕ) → Cut s (words_of s)
cut s = cut_within (suc (length s)) s (omega arith)
