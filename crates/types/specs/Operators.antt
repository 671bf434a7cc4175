-- The types of the operators' operands and results.
use Rattle.std.specs.Prelude.{◌≡◌, ℕ, ◌⊎◌}
use Rattle.table.specs.declared.view.BinaryOp.{BinaryOp}
use Rattle.table.specs.declared.view.BinaryOp.TheVariants.{Divide, Minus, Modulo, Multiply, Plus, And, Or, Equals, NotEquals, Greater, GreaterOrEquals, Lower, LowerOrEquals}
use Rattle.table.specs.declared.view.UnaryOp.{UnaryOp}
use Rattle.table.specs.declared.view.UnaryOp.TheVariants.{Minus as Negate, Not}
use Rattle.values.specs.declared.types.«Type».{«Type» as Ty}
use Rattle.values.specs.declared.types.«Type».TheVariants.{Boolean, Float, Int, Null, Class as ClassType}

-- A unary operator on an operand of the first type gives one of the second.
pub data UnaryTyped : UnaryOp → Ty → Ty → Type 0 where
  minus_int : UnaryTyped Negate Int Int
  minus_float : UnaryTyped Negate Float Float
  not_boolean : UnaryTyped Not Boolean Boolean

-- Arithmetic on numbers gives an int on two ints, and else a float.
pub data ArithTyped : Ty → Ty → Ty → Type 0 where
  int_int : ArithTyped Int Int Int
  int_float : ArithTyped Int Float Float
  float_int : ArithTyped Float Int Float
  float_float : ArithTyped Float Float Float

-- the operators that treat all numbers and give a number
pub data Arithmetic : BinaryOp → Type 0 where
  plus : Arithmetic Plus
  minus : Arithmetic Minus
  multiply : Arithmetic Multiply
  divide : Arithmetic Divide

-- those that compare numbers
pub data Comparison : BinaryOp → Type 0 where
  equals : Comparison Equals
  not_equals : Comparison NotEquals
  lower : Comparison Lower
  greater : Comparison Greater
  lower_or_equals : Comparison LowerOrEquals
  greater_or_equals : Comparison GreaterOrEquals

-- those that compare references
pub data Equality : BinaryOp → Type 0 where
  equals : Equality Equals
  not_equals : Equality NotEquals

-- those that treat booleans
pub data Logical : BinaryOp → Type 0 where
  and : Logical And
  or : Logical Or
  equals : Logical Equals
  not_equals : Logical NotEquals

-- the types of references
pub data Reference : Ty → Type 0 where
  class : {k : ℕ} → Reference (ClassType k)
  null : Reference Null

-- A binary operator on operands of the first two types gives a result of the third.
pub data BinaryTyped : BinaryOp → Ty → Ty → Ty → Type 0 where
  arithmetic : {o : BinaryOp} {t u v : Ty} → Arithmetic o → ArithTyped t u v → BinaryTyped o t u v
  modulo : BinaryTyped Modulo Int Int Int
  comparison : {o : BinaryOp} {t u v : Ty} → Comparison o → ArithTyped t u v → BinaryTyped o t u Boolean
  equality : {o : BinaryOp} {t u : Ty} → Equality o → Reference t → Reference u → BinaryTyped o t u Boolean
  logical : {o : BinaryOp} → Logical o → BinaryTyped o Boolean Boolean Boolean

-- Whether a value is an instance of a class may be asked of every reference.
pub data InstanceTyped : Ty → Ty → Type 0 where
  instance : {t : Ty} {k : ℕ} → Reference t → InstanceTyped t (ClassType k)

-- the types of numbers
pub data Number : Ty → Type 0 where
  int : Number Int
  float : Number Float

-- both types are numbers
abbrev pub Numbers : Ty → Ty → Type 0
Numbers t u = Number t × Number u

-- both types are w
abbrev pub Both : Ty → Ty → Ty → Type 0
Both w t u = (t ≡ w) × (u ≡ w)

-- the pairs of types that Equals and NotEquals treat
abbrev pub Equatable : Ty → Ty → Type 0
Equatable t u = Numbers t u ⊎ (Both Boolean t u ⊎ (Reference t × Reference u))
