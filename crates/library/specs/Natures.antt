-- What a definition is of.
use Rattle.std.specs.Prelude.{Bool, true, false}
use Rattle.library.specs.declared.definition.Nature.{Nature}
use Rattle.library.specs.declared.definition.Nature.TheVariants.{Param, Var, Method, Field}

abbrev pub is_field : Nature → Bool
is_field Param = false
is_field Var = false
is_field (Method s) = false
is_field (Field v c i) = true

-- a field, a parameter or a variable
abbrev pub is_variable : Nature → Bool
is_variable Param = true
is_variable Var = true
is_variable (Method s) = false
is_variable (Field v c i) = true
