-- The edges of the rules for numbers, case by case.
use Rattle.std.specs.Prelude.{◌≡◌, true, false, ℤ, pos, negsuc, Some, None, Ok, from_bits}
use Rattle.std.specs.Float.{nan, fin, binary64}
use Rattle.std.specs.Float.Ieee.{neg}
use Rattle.table.specs.declared.view.BinaryOp.TheVariants.{Divide, Modulo, Equals, NotEquals}
use Rattle.values.specs.declared.value.Value.{Value}
use Rattle.values.specs.declared.value.Value.TheVariants.{Null, Int, Float, Boolean}
use Rattle.values.specs.Numbers.{whole_int}
use Rattle.values.specs.Operators.{binary_result}

-- the lowest int
abbrev pub lowest : ℤ
lowest = negsuc 2147483647

-- 7 / -2 = -3 and 7 mod -2 = 1
abbrev pub TowardZero : Type 0
TowardZero = (binary_result Divide (Int (pos 7)) (Int (negsuc 1)) ≡ Ok (Int (negsuc 2))) × (binary_result Modulo (Int (pos 7)) (Int (negsuc 1)) ≡ Ok (Int (pos 1)))

-- the lowest int by -1
abbrev pub LowestDivided : Type 0
LowestDivided = (binary_result Divide (Int lowest) (Int (negsuc 0)) ≡ Ok (Int lowest)) × (binary_result Modulo (Int lowest) (Int (negsuc 0)) ≡ Ok (Int (pos 0)))

-- 2147483648.0 is no int, and -2147483648.9 is the lowest one
abbrev pub BoundsOfCast : Type 0
BoundsOfCast = (whole_int (from_bits binary64 4746794007248502784) ≡ None) × (whole_int (neg (from_bits binary64 4746794007250390221)) ≡ Some lowest)

-- a NaN is not equal to itself
abbrev pub NanUnequal : Type 0
NanUnequal = (binary_result NotEquals (Float nan) (Float nan) ≡ Ok (Boolean true)) × (binary_result Equals (Float nan) (Float nan) ≡ Ok (Boolean false))

-- -0.0 = 0.0
abbrev pub ZerosEqual : Type 0
ZerosEqual = binary_result Equals (Float (fin true 0 (pos 0))) (Float (fin false 0 (pos 0))) ≡ Ok (Boolean true)

-- null equals only null
abbrev pub NullEqualsOnlyNull : Type 0
NullEqualsOnlyNull = (v : Value) → binary_result Equals Null v ≡ Ok (Boolean true) → v ≡ Null

-- All of these.
abbrev pub CasesHold : Type 0
CasesHold = TowardZero × LowestDivided × BoundsOfCast × NanUnequal × ZerosEqual × NullEqualsOnlyNull
