-- The cases by computation.
use Rattle.std.proofs.Common.{refl}
use lib.Ieee.{neg, of_bits, of_fields, odd, eq, ne}
use lib.Count.{count_trailing_zeros}
use Rattle.std.specs.Int.{int_wrap}
use Rattle.values.specs.declared.value.Value.TheVariants.{Null, Int, Float, Boolean, Record, Text}
use Rattle.values.specs.Cases.{CasesHold, NullEqualsOnlyNull}

only_null : NullEqualsOnlyNull
only_null Null h = refl
only_null (Int x) h = cc
only_null (Float x) h = cc
only_null (Boolean x) h = cc
only_null (Record n) h = cc
only_null (Text n) h = cc

pub cases_hold : CasesHold
unfolding int_wrap neg of_bits of_fields odd count_trailing_zeros eq ne
cases_hold = ((refl, refl), (refl, refl), (refl, refl), (refl, refl), refl, only_null)
