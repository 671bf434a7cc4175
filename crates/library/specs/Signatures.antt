-- Signatures: lists of at most eight types, in eight places.
use Rattle.std.specs.Prelude.{◌-◌, List, ◌++◌, length, replicate}
use Rattle.values.specs.declared.types.«Type».{«Type» as Ty}
use Rattle.values.specs.declared.types.«Type».TheVariants.{Void}
use Rattle.library.specs.declared.definition.Signature.{Signature}

-- the signature of parameters with these types
abbrev pub signature : List Ty → Signature
signature ts = record { count = length ts; types = ts ++ replicate (8 - length ts) Void }
