use Rattle.std.proofs.Common.{◌∙◌, w32, SFits, rules}
use Rattle.std.proofs.lemmas.Int.{to_z-of_z}
use Rattle.values.proofs.Cuts.{within, beneath}
use Rattle.values.proofs.casts.whole_part.Goals as goal
use Rattle.values.proofs.casts.whole_part.Goals.{then-x, else-x}

pub returns : goal.returns
returns c =
    let f : SFits w32 c.saturating_f64_to_i32.result = search rules in
    let e = to_z-of_z w32 c.saturating_f64_to_i32.result f ∙ c.saturating_f64_to_i32.ensures in
    elim c.if-x.branch [
      | then-x w ↦ c.then_some.ensures ∙ within c.args.x _ c.if-x.then_some w.if-x.true w.then_some-is e
      | else-x w ↦ c.then_some.ensures ∙ beneath c.args.x _ c.if-x.then_some w.if-x.false (w.then_some-is ∙ w.if-x.false)
    ]
