-- Bits below those of the infinity stand for a finite float, and the others do not: 9223372036854775808 is the weight of the sign,
-- 4503599627370496 that of the exponent's field, and 9218868437227405312 are the bits of the infinity.
use Rattle.std.proofs.Common.{◌≡◌, ℕ, zero, suc, ◌/◌, ◌%◌, ◌<◌, ◌≤◌, Bool, true, false, cond, eqb, leb, Some, None, sym, refl, arith}
use lib.Ieee.{binary64, Float, odd, of_fields, of_bits}
use Rattle.table.specs.Kinds.{fits}
use Rattle.table.specs.declared.kinds.Word.TheVariants.{Float as FloatWord}
use Rattle.values.specs.Numbers.{finite}

odd_finite : (d : ℕ) (s : Bool) (q k l : ℕ) → finite (odd d s q k l) ≡ Some (odd d s q k l)
unfolding odd
odd_finite d s zero k l = refl
odd_finite d s (suc q) k l = refl

-- by the exponent's field x
low_field : (s : Bool) (x t : ℕ) → x < 2047 → finite (of_fields binary64 s x t) ≡ Some (of_fields binary64 s x t)
unfolding of_fields
low_field s zero t h = odd_finite 53 s t 0 1074
low_field s (suc x) t h = let e : eqb (suc x) 2047 ≡ false = grind arith in rw e (odd_finite 53 s _ x 1074)

high_field : (s : Bool) (x t : ℕ) → x ≡ 2047 → finite (of_fields binary64 s x t) ≡ None
unfolding of_fields
high_field s x t h = rw h (elim (eqb t 0) as (λ b. finite (cond b (Float.inf s) Float.nan) ≡ None) [ true ↦ refl | false ↦ refl ])

pub low_bits : (w : ℕ) → fits FloatWord w ≡ true → w % 9223372036854775808 < 9218868437227405312
low_bits w f = grind arith

pub below : (w : ℕ) → fits FloatWord w ≡ true → Some (of_bits binary64 w) ≡ finite (of_bits binary64 w)
unfolding of_bits
below w f =
    let h = low_bits w f in
    sym (low_field (leb 9223372036854775808 w) (w % 9223372036854775808 / 4503599627370496) (w % 4503599627370496) (omega arith))

pub above : (w : ℕ) → fits FloatWord w ≡ false → None ≡ finite (of_bits binary64 w)
unfolding of_bits
above w f =
    let h : 9218868437227405312 ≤ w % 9223372036854775808 = grind arith in
    sym (high_field (leb 9223372036854775808 w) (w % 9223372036854775808 / 4503599627370496) (w % 4503599627370496) (omega arith))
