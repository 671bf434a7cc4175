-- What a library holds, as five lists, and what each addition leaves.
use Rattle.std.specs.Prelude.{ℕ, List, [], ◌∷◌, ◌++◌, length, drop, replicate, Some, None, Option, vec_items, slice_set}
use Rattle.table.specs.declared.kinds.Node.{Node}
use Rattle.values.specs.declared.types.«Type».TheVariants.{Boolean, Class as ClassType}
use Rattle.types.specs.declared.class.Class.{Class}
use Rattle.library.specs.declared.member.Member.{Member}
use Rattle.library.specs.declared.member.Layout.{Layout}
use Rattle.library.specs.declared.attribute.Attribute.{Attribute}
use Rattle.library.specs.declared.definition.Nature.TheVariants.{Method}
use Rattle.library.specs.declared.held.Library.{Library}
use Rattle.library.specs.Signatures.{signature}

pub record Contents : Type 0 where
  pub classes : List Class
  pub layouts : List Layout
  pub members : List Member
  pub nodes : List Node
  pub attributes : List (Option Attribute)

abbrev pub contents : Library → Contents
contents l = record { classes = vec_items l.classes; layouts = vec_items l.layouts; members = vec_items l.members; nodes = vec_items l.nodes; attributes = vec_items l.attributes }

-- the class Object, which has no super-class
abbrev pub object : Class
object = record { name = 5; number = 0; parent = None }

-- its method equals, with one parameter of class Object and a boolean result
abbrev pub equals : Member
equals = record { name = 6; definition = record { nature = Method (signature (ClassType 0 ∷ [])); of = Boolean }; node = None }

-- a library that holds only Object
abbrev pub predefined : Contents
predefined = record { classes = object ∷ []; layouts = record { first = 0; end = 1; cells = 0 } ∷ []; members = equals ∷ []; nodes = []; attributes = [] }

-- with the nodes of a batch behind the others, none of them with an attribute yet
abbrev pub with_nodes : Contents → List Node → Contents
with_nodes w ns = record { classes = w.classes; layouts = w.layouts; members = w.members; nodes = w.nodes ++ ns; attributes = w.attributes ++ replicate (length ns) None }

-- with one more class, under the class j, which has the next number and no members yet
abbrev pub with_class : Contents → ℕ → ℕ → Contents
with_class w x j = record { classes = w.classes ++ record { name = x; number = length w.classes; parent = Some j } ∷ []; layouts = w.layouts ++ record { first = length w.members; end = length w.members; cells = 0 } ∷ []; members = w.members; nodes = w.nodes; attributes = w.attributes }

-- with more members, of no class yet
abbrev pub more_members : Contents → List Member → Contents
more_members w ms = record { classes = w.classes; layouts = w.layouts; members = w.members ++ ms; nodes = w.nodes; attributes = w.attributes }

-- the members that the new contents have behind those of the old
abbrev pub added : Contents → Contents → List Member
added old new = drop (length old.members) new.members

-- where the members from f on are those of the class k, whose records have n cells
abbrev pub with_layout : Contents → ℕ → ℕ → ℕ → Contents
with_layout w k f n = record { classes = w.classes; layouts = slice_set w.layouts k (record { first = f; end = length w.members; cells = n }); members = w.members; nodes = w.nodes; attributes = w.attributes }

-- with other attributes
abbrev pub with_attributes : Contents → List (Option Attribute) → Contents
with_attributes w as' = record { classes = w.classes; layouts = w.layouts; members = w.members; nodes = w.nodes; attributes = as' }
