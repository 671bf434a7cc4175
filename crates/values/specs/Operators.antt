-- What the operators give on values.
use Rattle.std.specs.Prelude.{ℕ, Bool, true, false, not, ◌&&◌, ◌||◌, ℤ, neg_ℤ, Some, None, Ok, Err, Option, Result, ◌==◌, int_le, int_lt, Float as Double}
use Rattle.std.specs.Bool.{beq}
use Rattle.std.specs.Ordering.{partial_lt, partial_le, partial_gt, partial_ge}
use Rattle.std.specs.declared.cmp.Ordering.{Ordering}
use Rattle.std.specs.Float.{binary64}
use Rattle.std.specs.Float.Ieee.{add, sub, mul, div, neg, lt, le, eq, ne, of_int}
use Rattle.table.specs.declared.view.BinaryOp.{BinaryOp}
use Rattle.table.specs.declared.view.BinaryOp.TheVariants.{Divide, Minus, Modulo, Multiply, Plus, And, Or, Equals, NotEquals, Greater, GreaterOrEquals, Lower, LowerOrEquals}
use Rattle.table.specs.declared.view.UnaryOp.{UnaryOp}
use Rattle.table.specs.declared.view.UnaryOp.TheVariants.{Minus as Negate, Not}
use Rattle.values.specs.declared.value.Value.{Value}
use Rattle.values.specs.declared.value.Value.TheVariants.{Null, Int, Float, Boolean, Record, Text}
use Rattle.values.specs.declared.pairs.Pair.{Pair}
use Rattle.values.specs.declared.pairs.Pair.TheVariants.{Ints, Floats, Booleans, References}
use Rattle.values.specs.declared.operators.Stop.{Stop}
use Rattle.values.specs.declared.operators.Stop.TheVariants.{Untreated}
use Rattle.values.specs.Numbers.{same, exact, kept}

-- what a right operand is beside an int
abbrev pub beside_int : ℤ → Value → Option Pair
beside_int x (Int y) = Some (Ints x y)
beside_int x (Float y) = Some (Floats (of_int binary64 x) y)
beside_int x Null = None
beside_int x (Boolean b) = None
beside_int x (Record n) = None
beside_int x (Text n) = None

-- beside a float
abbrev pub beside_float : Double → Value → Option Pair
beside_float x (Int y) = Some (Floats x (of_int binary64 y))
beside_float x (Float y) = Some (Floats x y)
beside_float x Null = None
beside_float x (Boolean b) = None
beside_float x (Record n) = None
beside_float x (Text n) = None

-- beside a boolean
abbrev pub beside_boolean : Bool → Value → Option Pair
beside_boolean x (Boolean y) = Some (Booleans x y)
beside_boolean x Null = None
beside_boolean x (Int y) = None
beside_boolean x (Float y) = None
beside_boolean x (Record n) = None
beside_boolean x (Text n) = None

-- beside null or a record
abbrev pub beside_reference : Option ℕ → Value → Option Pair
beside_reference x Null = Some (References x None)
beside_reference x (Record n) = Some (References x (Some n))
beside_reference x (Int y) = None
beside_reference x (Float y) = None
beside_reference x (Boolean b) = None
beside_reference x (Text n) = None

-- What two operands are together, if an operator can treat them: an int beside a float becomes the equal float.
abbrev pub pair_of : Value → Value → Option Pair
pair_of (Int x) v = beside_int x v
pair_of (Float x) v = beside_float x v
pair_of (Boolean x) v = beside_boolean x v
pair_of Null v = beside_reference None v
pair_of (Record n) v = beside_reference (Some n) v
pair_of (Text n) v = None

-- A comparison by an equality and an order. The other operators do not compare.
abbrev pub comparison_result : {T : Type 0} → (T → T → Bool) → (T → T → Option Ordering) → BinaryOp → T → T → Result Value Stop
comparison_result equal order Equals x y = Ok (Boolean (equal x y))
comparison_result equal order NotEquals x y = Ok (Boolean (not (equal x y)))
comparison_result equal order Greater x y = Ok (Boolean (partial_gt order x y))
comparison_result equal order GreaterOrEquals x y = Ok (Boolean (partial_ge order x y))
comparison_result equal order Lower x y = Ok (Boolean (partial_lt order x y))
comparison_result equal order LowerOrEquals x y = Ok (Boolean (partial_le order x y))
comparison_result equal order And x y = Err Untreated
comparison_result equal order Or x y = Err Untreated
comparison_result equal order Plus x y = Err Untreated
comparison_result equal order Minus x y = Err Untreated
comparison_result equal order Multiply x y = Err Untreated
comparison_result equal order Divide x y = Err Untreated
comparison_result equal order Modulo x y = Err Untreated

-- On ints: arithmetic, and the order of the integers.
abbrev pub int_result : BinaryOp → ℤ → ℤ → Result Value Stop
int_result Plus x y = kept (exact Plus x y)
int_result Minus x y = kept (exact Minus x y)
int_result Multiply x y = kept (exact Multiply x y)
int_result Divide x y = kept (exact Divide x y)
int_result Modulo x y = kept (exact Modulo x y)
int_result Equals x y = Ok (Boolean (same x y))
int_result NotEquals x y = Ok (Boolean (not (same x y)))
int_result Greater x y = Ok (Boolean (int_lt y x))
int_result GreaterOrEquals x y = Ok (Boolean (int_le y x))
int_result Lower x y = Ok (Boolean (int_lt x y))
int_result LowerOrEquals x y = Ok (Boolean (int_le x y))
int_result And x y = Err Untreated
int_result Or x y = Err Untreated

-- On floats: each is one operation of IEEE 754's binary64.
abbrev pub float_result : BinaryOp → Double → Double → Result Value Stop
float_result Plus x y = Ok (Float (add binary64 x y))
float_result Minus x y = Ok (Float (sub binary64 x y))
float_result Multiply x y = Ok (Float (mul binary64 x y))
float_result Divide x y = Ok (Float (div binary64 x y))
float_result Equals x y = Ok (Boolean (eq x y))
float_result NotEquals x y = Ok (Boolean (ne x y))
float_result Greater x y = Ok (Boolean (lt y x))
float_result GreaterOrEquals x y = Ok (Boolean (le y x))
float_result Lower x y = Ok (Boolean (lt x y))
float_result LowerOrEquals x y = Ok (Boolean (le x y))
float_result Modulo x y = Err Untreated
float_result And x y = Err Untreated
float_result Or x y = Err Untreated

-- On operands that are only equal or not.
abbrev pub equality_result : BinaryOp → Bool → Result Value Stop
equality_result Equals s = Ok (Boolean s)
equality_result NotEquals s = Ok (Boolean (not s))
equality_result And s = Err Untreated
equality_result Or s = Err Untreated
equality_result Plus s = Err Untreated
equality_result Minus s = Err Untreated
equality_result Multiply s = Err Untreated
equality_result Divide s = Err Untreated
equality_result Modulo s = Err Untreated
equality_result Greater s = Err Untreated
equality_result GreaterOrEquals s = Err Untreated
equality_result Lower s = Err Untreated
equality_result LowerOrEquals s = Err Untreated

-- On booleans.
abbrev pub boolean_result : BinaryOp → Bool → Bool → Result Value Stop
boolean_result And x y = Ok (Boolean (x && y))
boolean_result Or x y = Ok (Boolean (x || y))
boolean_result Equals x y = equality_result Equals (beq x y)
boolean_result NotEquals x y = equality_result NotEquals (beq x y)
boolean_result Plus x y = Err Untreated
boolean_result Minus x y = Err Untreated
boolean_result Multiply x y = Err Untreated
boolean_result Divide x y = Err Untreated
boolean_result Modulo x y = Err Untreated
boolean_result Greater x y = Err Untreated
boolean_result GreaterOrEquals x y = Err Untreated
boolean_result Lower x y = Err Untreated
boolean_result LowerOrEquals x y = Err Untreated

-- whether two references are one: null is only null, and a record is itself
abbrev pub one_reference : Option ℕ → Option ℕ → Bool
one_reference None None = true
one_reference None (Some n) = false
one_reference (Some m) None = false
one_reference (Some m) (Some n) = m == n

-- On operands that have been told apart.
abbrev pub pair_result : BinaryOp → Pair → Result Value Stop
pair_result o (Ints x y) = int_result o x y
pair_result o (Floats x y) = float_result o x y
pair_result o (Booleans x y) = boolean_result o x y
pair_result o (References x y) = equality_result o (one_reference x y)

-- the same, where they may not go together
abbrev pub operands_result : BinaryOp → Option Pair → Result Value Stop
operands_result o (Some p) = pair_result o p
operands_result o None = Err Untreated

-- What a binary operator gives.
abbrev pub binary_result : BinaryOp → Value → Value → Result Value Stop
binary_result o x y = operands_result o (pair_of x y)

-- the negation of a number
abbrev pub negated : Value → Result Value Stop
negated (Int x) = kept (Ok (neg_ℤ x))
negated (Float x) = Ok (Float (neg x))
negated Null = Err Untreated
negated (Boolean b) = Err Untreated
negated (Record n) = Err Untreated
negated (Text n) = Err Untreated

-- the contrary of a boolean
abbrev pub denied : Value → Result Value Stop
denied (Boolean b) = Ok (Boolean (not b))
denied Null = Err Untreated
denied (Int x) = Err Untreated
denied (Float x) = Err Untreated
denied (Record n) = Err Untreated
denied (Text n) = Err Untreated

-- What a unary operator gives.
abbrev pub unary_result : UnaryOp → Value → Result Value Stop
unary_result Negate v = negated v
unary_result Not v = denied v
