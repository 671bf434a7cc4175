use Rattle.std.proofs.Common.{◌≡◌, ap, arith}
use Rattle.std.proofs.lemmas.List.{with_items_is}
use Rattle.std.proofs.lemmas.Result.{err_from_is_err_and}
use Rattle.slips.specs.Chains.{counts}
use Rattle.slips.proofs.Fresh.{fresh_empty}
use Rattle.slips.proofs.slips.Slips.new.Goals as goal

pub returns-in_err-heads : goal.returns-in_err-heads
returns-in_err-heads g c =
    let p = err_from_is_err_and c.from_residual-in_err-heads.result c.from_residual-in_err-heads.ensures.1 in
    rw (p.1, p.2) c.in_ok-check_sizes.ensures

pub returns-in_err-slots : goal.returns-in_err-slots
returns-in_err-slots g c =
    let p = err_from_is_err_and c.from_residual-in_err-slots.result c.from_residual-in_err-slots.ensures.1 in
    rw (p.1, p.2) c.in_ok-check_sizes.ensures

pub invariant_of-result : goal.invariant_of-result
invariant_of-result g c =
    let made = c.in_ok-heads.ensures in
    let filled = c.in_ok-slots.ensures in
    let ws = c.relink.new.slots in
    let long : c.in_ok-slots.slots.len ≡ g.row.CELLS = filled.len in
    record {
      sizes = c.in_ok-check_sizes.ensures;
      head_room = made.capacity;
      filled = long;
      records_kept = omega arith;
      cells_kept = omega (arith, ap counts made.items);
      chains = fresh_empty _ ws _ g.row.CELLS c.relink.ensures (with_items_is c.in_ok-slots.slots ws (omega arith)) made.items (omega arith);
    }
