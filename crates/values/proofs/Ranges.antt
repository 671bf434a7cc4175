-- Ints in their range, and as floats.
use Rattle.std.proofs.Common.{suc, true, false, pos, negsuc, Ok, ap, arith, w32}
use lib.Ieee.{binary64, of_int}
use lib.Ieee.Back.{round_whole}
use Rattle.std.proofs.lemmas.Int.{int_wrap_fits}
use Rattle.values.specs.declared.value.Value.TheVariants.{Int}
use Rattle.values.specs.Laws.{KeptInRange, IntAsFloat}

pub in_range : KeptInRange
in_range z f = ap (λ x. Ok (Int x)) (int_wrap_fits w32 z f)

pub as_float : IntAsFloat
unfolding of_int
as_float (pos n) f = let h = f.sfits in round_whole binary64 false n (omega arith)
as_float (negsuc n) f = let h = f.sfits in round_whole binary64 true (suc n) (omega arith)
