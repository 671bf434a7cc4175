-- What expressions are checked against, and the attributes that the rules give.
use Rattle.std.specs.Prelude.{ℕ, ◌+◌, List, [], ◌∷◌, Some, None, Option, slice_set}
use Rattle.names.specs.Env.{Env, lookup, stacked}
use Rattle.types.specs.declared.class.Class.{Class}
use Rattle.library.specs.declared.attribute.Attribute.{Attribute}
use Rattle.library.specs.declared.definition.Definition.{Definition}
use Rattle.library.specs.declared.member.Member.{Member}
use Rattle.library.specs.Contents.{Contents, with_attributes}
use Rattle.library.specs.Environments.{environment}
use Rattle.typing.specs.declared.local.Local.{Local}
use Rattle.typing.specs.Views.{local_name}

pub record Setting : Type 0 where
  -- the classes there are, and the environment of each
  pub classes : List Class
  pub members : ℕ → Env Member
  -- the class around, none in Main
  pub class : Option ℕ
  -- the parameters and variables in view
  pub locals : List Local

abbrev pub setting : Contents → Option ℕ → List Local → Setting
setting w k ls = record { classes = w.classes; members = environment w; class = k; locals = ls }

abbrev pub local_definition : Option Local → Option Definition
local_definition None = None
local_definition (Some l) = Some l.definition

abbrev pub member_definition : Option Member → Option Definition
member_definition None = None
member_definition (Some m) = Some m.definition

abbrev pub class_scope : (ℕ → Env Member) → Option ℕ → Env Definition
class_scope f None x = None
class_scope f (Some k) x = member_definition (f k x)

-- what a name stands for: a parameter or variable, or else a member of the class around
abbrev pub in_view : Setting → Env Definition
in_view s = stacked (λ x. local_definition (lookup local_name s.locals x)) (class_scope s.members s.class)

-- The attributes that the rules give, each with its place, in the order in which they are found.
abbrev pub Log : Type 0
Log = List (ℕ × Attribute)

-- the attributes of a library that kept n nodes before the batch, with those of the log
abbrev pub noted : ℕ → Log → List (Option Attribute) → List (Option Attribute)
noted n [] as' = as'
noted n ((p, a) ∷ ws) as' = noted n ws (slice_set as' (n + p) (Some a))

-- a library with the attributes of a log
abbrev pub with_log : ℕ → Log → Contents → Contents
with_log n W w = with_attributes w (noted n W w.attributes)
