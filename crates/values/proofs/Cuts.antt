-- The bounds of a cast from float to int: 13970166044105375744 are the bits of -2147483649.0, and 4746794007248502784 those of 2147483648.0.
use Rattle.std.proofs.Common.{◌≡◌, ℕ, ◌*◌, ◌/◌, ◌<◌, ◌≤◌, Bool, true, false, ℤ, sym, ap, ◌∙◌, ◌⊎◌, Some, None, refl, inl, inr, div-lt_iff_lt-mul, arith, ltb-false, ltb-true}
use lib.Ieee.{Float, nan, inf, fin, binary64, lt, of_bits, of_fields, odd, to_signed, up, down}
use lib.Ieee.Fits.{down_pos}
use Rattle.std.specs.Bool.{then_some}
use lib.Count.{count_trailing_zeros}
use Rattle.values.specs.Numbers.{cut, whole_int}

below_cut : (a d n : ℕ) → 0 < d → n * d ≤ a → n ≤ a / d
below_cut a d n p h = grind (arith, (div-lt_iff_lt-mul {k = d} {x = a} {y = n} p).0)

inside : (x : Float) → lt (of_bits binary64 13970166044105375744) x ≡ true → lt x (of_bits binary64 4746794007248502784) ≡ true → Some (to_signed 31 x) ≡ whole_int x
unfolding lt of_bits of_fields odd count_trailing_zeros to_signed
inside nan h k = grind arith
inside (inf true) h k = grind arith
inside (inf false) h k = grind arith
inside (fin false m e) h k =
    let q : cut m e < 2147483648 = (div-lt_iff_lt-mul (down_pos e)).1 (omega (arith, ltb-true _ _ k)) in grind arith
inside (fin true m e) h k =
    let q : cut m e < 2147483649 = (div-lt_iff_lt-mul (down_pos e)).1 (omega (arith, ltb-true _ _ h)) in grind arith

outside : (x : Float) → (lt (of_bits binary64 13970166044105375744) x ≡ false) ⊎ (lt x (of_bits binary64 4746794007248502784) ≡ false) → None ≡ whole_int x
unfolding lt of_bits of_fields odd count_trailing_zeros
outside nan h = refl
outside (inf s) h = refl
outside (fin false m e) (inl h) = let p = down_pos e in let f = ltb-false _ _ h in absurd (omega arith)
outside (fin false m e) (inr h) =
    let q : 2147483648 ≤ cut m e = below_cut (m * up e) (down e) 2147483648 (down_pos e) (omega (arith, ltb-false _ _ h)) in
    grind arith
outside (fin true m e) (inl h) =
    let q : 2147483649 ≤ cut m e = below_cut (m * up e) (down e) 2147483649 (down_pos e) (omega (arith, ltb-false _ _ h)) in
    grind arith
outside (fin true m e) (inr h) = let p = down_pos e in let f = ltb-false _ _ h in absurd (omega arith)

-- n is the cast of x, which is above the lower bound; `high` says whether it is below the upper one
pub within : (x : Float) (n : ℤ) (high : Bool) → lt (of_bits binary64 13970166044105375744) x ≡ true → high ≡ lt x (of_bits binary64 4746794007248502784) → n ≡ to_signed 31 x → then_some high n ≡ whole_int x
within x n true l h e = ap (λ z. Some z) e ∙ inside x l (sym h)
within x n false l h e = outside x (inr (sym h))

pub beneath : (x : Float) (n : ℤ) (high : Bool) → lt (of_bits binary64 13970166044105375744) x ≡ false → high ≡ false → then_some high n ≡ whole_int x
beneath x n true l h = cc
beneath x n false l h = outside x (inl l)
