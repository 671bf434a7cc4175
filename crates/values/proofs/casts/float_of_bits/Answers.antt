use Rattle.std.proofs.Common.{rules}
use Rattle.std.proofs.lemmas.Float.{not_nan_f64_bits}
use Rattle.values.proofs.Finite.{low_bits, below, above}
use Rattle.values.proofs.casts.float_of_bits.Goals as goal

pub then-requires : goal.then-requires
then-requires c = search (rules, not_nan_f64_bits, low_bits)

pub returns : goal.returns
returns c = search (rules, below, above)
