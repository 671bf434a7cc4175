-- Numbers: exact results on ints and what becomes of them, and the whole part of a float.
use Rattle.std.specs.Prelude.{ℕ, ◌*◌, ◌/◌, ◌^◌, Bool, true, false, cond, ℤ, pos, negsuc, ◌+ℤ◌, ◌-ℤ◌, ◌*ℤ◌, neg_ℤ, Some, None, Ok, Err, Option, Result, ◌==◌, int_div, int_rem, nat_le, nat_lt, Float as Double}
use Rattle.std.specs.Float.{nan, inf, fin}
use Rattle.std.specs.Float.Ieee.{up, down}
use Rattle.std.specs.Int.{int_wrap, w32}
use Rattle.table.specs.declared.view.BinaryOp.{BinaryOp}
use Rattle.table.specs.declared.view.BinaryOp.TheVariants.{Divide, Minus, Modulo, Multiply, Plus, And, Or, Equals, NotEquals, Greater, GreaterOrEquals, Lower, LowerOrEquals}
use Rattle.values.specs.declared.value.Value.{Value}
use Rattle.values.specs.declared.value.Value.TheVariants.{Int}
use Rattle.values.specs.declared.operators.Stop.{Stop}
use Rattle.values.specs.declared.operators.Stop.TheVariants.{ZeroDivisor, Untreated}

-- whether two integers are the same
abbrev pub same : ℤ → ℤ → Bool
same (pos a) (pos b) = a == b
same (pos a) (negsuc b) = false
same (negsuc a) (pos b) = false
same (negsuc a) (negsuc b) = a == b

-- a number to divide by
abbrev pub divisor : ℤ → Result ℤ Stop
divisor y = cond (same y (pos 0)) (Err ZeroDivisor) (Ok y)

-- The exact result of arithmetic on two ints. A quotient is cut toward zero, and a remainder has the sign of x.
abbrev pub exact : BinaryOp → ℤ → ℤ → Result ℤ Stop
exact Plus x y = Ok (x +ℤ y)
exact Minus x y = Ok (x -ℤ y)
exact Multiply x y = Ok (x *ℤ y)
exact Divide x y = cond (same y (pos 0)) (Err ZeroDivisor) (Ok (int_div x y))
exact Modulo x y = cond (same y (pos 0)) (Err ZeroDivisor) (Ok (int_rem x y))
exact And x y = Err Untreated
exact Or x y = Err Untreated
exact Equals x y = Err Untreated
exact NotEquals x y = Err Untreated
exact Greater x y = Err Untreated
exact GreaterOrEquals x y = Err Untreated
exact Lower x y = Err Untreated
exact LowerOrEquals x y = Err Untreated

-- What becomes of an exact result: an int, by wrapping to 32 bits.
abbrev pub kept : Result ℤ Stop → Result Value Stop
kept (Ok z) = Ok (Int (int_wrap w32 z))
kept (Err s) = Err s

-- m * 2 ^ e without its fraction
abbrev pub cut : ℕ → ℤ → ℕ
cut m e = m * up e / down e

-- A float without its fraction, where that is from -2 ^ 31 to 2 ^ 31 - 1.
abbrev pub whole_int : Double → Option ℤ
whole_int nan = None
whole_int (inf s) = None
whole_int (fin false m e) = cond (nat_lt (cut m e) (2 ^ 31)) (Some (pos (cut m e))) None
whole_int (fin true m e) = cond (nat_le (cut m e) (2 ^ 31)) (Some (neg_ℤ (pos (cut m e)))) None

-- A float, unless it is a NaN or an infinity.
abbrev pub finite : Double → Option Double
finite nan = None
finite (inf s) = None
finite (fin s m e) = Some (fin s m e)
