use Rattle.std.proofs.Common.{◌≡◌, get_or, sym, ap, ◌∙◌, subst}
use Rattle.std.proofs.lemmas.List.{take_all}
use Rattle.store.specs.Model.{cleared}
use Rattle.store.specs.History.{changed, played, Balance}
use Rattle.store.specs.declared.history.Change.TheVariants.{Create}
use Rattle.store.proofs.Balanced.{balances, played_more}
use Rattle.store.proofs.history.replay.Goals as goal

pub loop-change-preserved : goal.loop-change-preserved
loop-change-preserved g c =
    let xs = c.args.changes.now in
    let i = c.loop-change.change-index in
    c.apply.ensures ∙ ap (λ m. changed m (get_or xs i (Create 0 0))) c.loop-change.invariant ∙ sym (played_more _ xs i (Create 0 0) c.loop-change-test.true)

pub returns : goal.returns
returns g c =
    let xs = c.args.changes.now in
    let m = cleared g.S.Store.R g.S.Store.C in
    let all = balances g.S.Store.R g.S.Store.C in
    let e : g.S.Store.model c.loop-change.store ≡ played m xs = c.loop-change.invariant ∙ ap (played m) (take_all c.loop-change.change-index xs c.loop-change-test.false) in
    record { after = e; balance = subst (Balance _ _) (sym e) (all xs); always = all }
