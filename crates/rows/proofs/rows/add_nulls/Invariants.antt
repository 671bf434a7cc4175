use Rattle.std.proofs.Common.{◌≡◌, ◌+◌, ◌++◌, replicate, vec_items, vec_len, vec_capacity}
use Rattle.values.specs.declared.value.Value.TheVariants.{Null}
use Rattle.rows.proofs.rows.add_nulls.Given as goal

abbrev pub invariant-loop : goal.invariant-loop
invariant-loop l =
    (vec_items l.cells ≡ vec_items l.initial.cells ++ replicate l.counter Null) ×
    (vec_len l.cells ≡ vec_len l.initial.cells + l.counter) ×
    (vec_capacity l.cells ≡ vec_capacity l.initial.cells)
