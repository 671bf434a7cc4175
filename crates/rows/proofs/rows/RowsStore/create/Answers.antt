use Rattle.std.proofs.Common.{◌≡◌, true, vec_items, vec_len, sym, arith}
use Rattle.std.proofs.lemmas.Bool.Decides.{nat_tests}
use Rattle.store.specs.Model.{room}
use Rattle.rows.specs.Meaning.{meaning}
use Rattle.rows.specs.Counted.{records_counted}
use Rattle.rows.proofs.Cuts.{tiles_push}
use Rattle.rows.proofs.Found.{appended}
use Rattle.rows.proofs.rows.RowsStore.create.Goals as goal

pub invariant_of-self-clause-tiled : goal.invariant_of-self-clause-tiled
invariant_of-self-clause-tiled g c =
    let s = c.args.self.now in
    rw c.push_reserved.ensures.items (tiles_push (vec_items s.heads) _ 0 (vec_len s.cells) _ s.tiled c.len-first.ensures (sym c.add_nulls.ensures.len))

pub returns : goal.returns
returns g c =
    let s = c.args.self.now in
    let fits : room (meaning s) c.args.cells ≡ true = grind (arith, nat_tests) in
    let made = appended s _ _ _ c.push_reserved.ensures.items c.add_nulls.ensures.items in
    (fits, omega (arith, records_counted s), grind arith)
