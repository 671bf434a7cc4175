-- A quotient of ints, wrapped.
use Rattle.std.proofs.Common.{◌≡◌, ℕ, zero, suc, ◌-◌, ◌/◌, ◌%◌, ◌<◌, ◌≤◌, ℤ, pos, negsuc, neg_ℤ, sym, ap, mod-eq_of_lt, div-le_self, arith, w32, SFits, to_z, of_z}
use lib.Signed.{mag, quot_z}
use Rattle.std.specs.Int.{int_wrap}

mag_neg : (n : ℕ) → mag (neg_ℤ (pos n)) ≤ n
mag_neg zero = omega arith
mag_neg (suc n) = omega arith

mag_quot : (x y : ℤ) → mag (quot_z x y) ≤ suc (mag x)
mag_quot (pos a) (pos b) = let h = div-le_self a b in omega arith
mag_quot (pos a) (negsuc b) = let h = div-le_self a (suc b) in let k = mag_neg (a / suc b) in omega arith
mag_quot (negsuc a) (pos b) = let h = div-le_self (suc a) b in let k = mag_neg (suc a / b) in omega arith
mag_quot (negsuc a) (negsuc b) = div-le_self (suc a) (suc b)

-- to the bits and back is to wrap, for a number of at most 32 bits
by_bits : (z : ℤ) → mag z < 4294967296 → to_z w32 (of_z w32 z) ≡ int_wrap w32 z
unfolding int_wrap
by_bits (pos n) h = ap (to_z w32) (sym (mod-eq_of_lt h))
by_bits (negsuc n) h =
    let e : 4294967296 - suc n ≡ 4294967295 - n % 4294967296 = omega arith in ap (to_z w32) e

pub quotient_wraps : (x y : ℤ) → SFits w32 x → to_z w32 (of_z w32 (quot_z x y)) ≡ int_wrap w32 (quot_z x y)
quotient_wraps x y f = let k = mag_quot x y in let h = f.sfits in by_bits (quot_z x y) (omega arith)
