use Rattle.std.proofs.Common.{◌≡◌, true, refl, arith}
use Rattle.std.proofs.lemmas.Bool.Decides.{nat_tests}
use Rattle.store.specs.Model.{room}
use Rattle.slips.specs.SlipsModel.{slips_model}
use Rattle.slips.specs.Counted.{records_whole}
use Rattle.slips.proofs.Walking.{counts_pushed}
use Rattle.slips.proofs.Grown.{front_free, grown_linked, grown}
use Rattle.slips.proofs.operations.SlipsStore.create.Goals as goal

pub blank-self-requires : goal.blank-self-requires
blank-self-requires g c = let free = front_free c.args.self.now _ c.args.cells c.deref_mut.ensures.value (omega arith) in grind arith

pub invariant_of-self-clause-cells_kept : goal.invariant_of-self-clause-cells_kept
invariant_of-self-clause-cells_kept g c = let counted = counts_pushed _ _ _ c.push_reserved.ensures.items in omega arith

pub invariant_of-self-clause-chains : goal.invariant_of-self-clause-chains
invariant_of-self-clause-chains g c =
    grown_linked c.args.self.now _ _ _ _ _ (omega arith) refl c.deref_mut.ensures.value c.blank-self.ensures.nulls c.blank-self.ensures.end c.push_reserved.ensures.items

pub returns : goal.returns
returns g c =
    let s = c.args.self.now in
    let fits : room (slips_model s) c.args.cells ≡ true = grind (arith, nat_tests) in
    let made = grown s _ _ _ _ _ (omega arith) refl c.deref_mut.ensures.value c.blank-self.ensures.nulls c.blank-self.ensures.end c.push_reserved.ensures.items in
    (fits, omega (arith, records_whole s), grind arith)
