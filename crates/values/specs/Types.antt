-- Declared types.
use Rattle.std.specs.Prelude.{false, pos}
use Rattle.std.specs.Float.{fin, binary64}
use Rattle.std.specs.Float.Ieee.{of_int}
use Rattle.values.specs.declared.value.Value.{Value}
use Rattle.values.specs.declared.value.Value.TheVariants.{Null, Int, Float, Boolean, Record, Text}
use Rattle.values.specs.declared.types.«Type».{«Type» as Declared}
use Rattle.values.specs.declared.types.«Type».TheVariants.{Void, Class, String, Boolean as BooleanType, Float as FloatType, Int as IntType, Null as NullType}

-- What a variable of a type starts with.
abbrev pub zero_value : Declared → Value
zero_value IntType = Int (pos 0)
zero_value FloatType = Float (fin false 0 (pos 0))
zero_value BooleanType = Boolean false
zero_value Void = Null
zero_value String = Null
zero_value NullType = Null
zero_value (Class n) = Null

-- A value where a float is declared: an int becomes the equal float.
abbrev pub widened_value : Value → Value
widened_value (Int x) = Float (of_int binary64 x)
widened_value (Float x) = Float x
widened_value Null = Null
widened_value (Boolean b) = Boolean b
widened_value (Record n) = Record n
widened_value (Text n) = Text n
