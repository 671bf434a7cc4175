-- Laws of all numbers.
use Rattle.std.specs.Prelude.{◌≡◌, ◌<◌, Bool, true, false, not, ◌||◌, ◌⊎◌, ℤ, pos, ◌+ℤ◌, ◌*ℤ◌, Ok, FitsSigned, int_div, int_rem, is_nan, unsigned_abs, Float as Double}
use Rattle.std.specs.Int.Signed.{non_neg}
use Rattle.std.specs.Float.{binary64}
use Rattle.std.specs.Float.Ieee.{of_int}
use Rattle.std.specs.Float.Ieee.Exact.{HasValue}
use Rattle.std.specs.Int.{w32}
use Rattle.table.specs.declared.view.BinaryOp.{BinaryOp}
use Rattle.table.specs.declared.view.BinaryOp.TheVariants.{Equals, NotEquals, Greater, GreaterOrEquals, Lower, LowerOrEquals}
use Rattle.values.specs.declared.value.Value.TheVariants.{Int, Float, Boolean}
use Rattle.values.specs.Numbers.{kept}
use Rattle.values.specs.Operators.{binary_result}

-- Quotient and remainder make up the left operand; the remainder is smaller than the divisor, and has the left operand's sign.
abbrev pub Division : Type 0
Division =
    (x y : ℤ) → 0 < unsigned_abs y → (x ≡ int_div x y *ℤ y +ℤ int_rem x y) × (unsigned_abs (int_rem x y) < unsigned_abs y) × ((int_rem x y ≡ pos 0) ⊎ (non_neg (int_rem x y) ≡ non_neg x))

-- An exact result that is an int is not changed.
abbrev pub KeptInRange : Type 0
KeptInRange = (z : ℤ) → FitsSigned w32 z → kept (Ok z) ≡ Ok (Int z)

-- The float that an int becomes has exactly its value.
abbrev pub IntAsFloat : Type 0
IntAsFloat = (x : ℤ) → FitsSigned w32 x → HasValue (of_int binary64 x) (not (non_neg x)) (unsigned_abs x) 1

-- o answers b on two floats
abbrev pub Says : BinaryOp → Double → Double → Bool → Type 0
Says o x y b = binary_result o (Float x) (Float y) ≡ Ok (Boolean b)

-- Where one operand is a NaN, only NotEquals is true.
abbrev pub NanCompares : Type 0
NanCompares =
    (x y : Double) → (is_nan x || is_nan y) ≡ true →
    Says NotEquals x y true × Says Equals x y false × Says Greater x y false × Says GreaterOrEquals x y false × Says Lower x y false × Says LowerOrEquals x y false

-- All of these.
abbrev pub LawsHold : Type 0
LawsHold = Division × KeptInRange × IntAsFloat × NanCompares
