use Rattle.std.proofs.Common.{◌≡◌, arith, rules}
use Rattle.std.proofs.Math.ListN.{get_or-map}
use Rattle.table.specs.Kinds.{KindRow, number_of}
use Rattle.table.specs.declared.kinds.Row.{Row}
use Rattle.table.proofs.Rows.{row_numbered}
use Rattle.table.proofs.kinds.KindTryFromU8.try_from.Goals as goal

pub returns-in-1-to-48 : goal.returns-in-1-to-48
returns-in-1-to-48 c =
    let n = row_numbered c.args.number (omega arith) (omega arith) in
    let f : c.from.result ≡ c.args.number = search rules in
    rw (f, ← get_or-map (λ (r : Row). number_of r.kind)) (rw (← get_or-map (λ (r : KindRow). number_of r.kind)) at n)
