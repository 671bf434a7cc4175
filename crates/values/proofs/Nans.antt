-- Comparisons beside a NaN.
use Rattle.std.proofs.Common.{refl}
use lib.Ieee.{nan, inf, fin, is_nan, lt, le, eq, ne}
use Rattle.values.specs.Laws.{NanCompares}

pub nan_compares : NanCompares
unfolding is_nan lt le eq ne
nan_compares nan nan h = (refl, refl, refl, refl, refl, refl)
nan_compares nan (inf t) h = (refl, refl, refl, refl, refl, refl)
nan_compares nan (fin t n d) h = (refl, refl, refl, refl, refl, refl)
nan_compares (inf s) nan h = (refl, refl, refl, refl, refl, refl)
nan_compares (fin s m e) nan h = (refl, refl, refl, refl, refl, refl)
nan_compares (inf s) (inf t) h = cc
nan_compares (inf s) (fin t n d) h = cc
nan_compares (fin s m e) (inf t) h = cc
nan_compares (fin s m e) (fin t n d) h = cc
