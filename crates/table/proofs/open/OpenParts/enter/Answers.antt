use Rattle.std.proofs.Common.{◌≡◌, ◌≤◌, IsSomeAnd, IsOk, ◌↔◌, arith, rules}
use Rattle.std.proofs.lemmas.Grind.{common_steps}
use Rattle.table.specs.Shape.{end_of, depth}
use borrow.Author.Tests.{tests}
use Rattle.table.proofs.Opened.{Behind, opens_popped, opens_depth, opens_more, entered}
use Rattle.table.proofs.open.OpenParts.enter.Goals as goal

pub loop-self-preserved : goal.loop-self-preserved
loop-self-preserved c =
    let l : IsSomeAnd c.pop.result (λ e. e ≤ c.args.at) = grind (arith, common_steps) in
    opens_popped _ _ _ _ _ c.loop-self.invariant c.pop.ensures.items l

pub returns : goal.returns
returns c =
    let b : Behind c.args.at c.loop-self.self.ends.items = grind (arith, common_steps) in
    let d = opens_depth c.args.nodes.now c.args.at _ c.loop-self.invariant (c.requires.laid c.args.at (omega arith)) b in
    let o = opens_more c.args.nodes.now c.args.at _ c.loop-self.invariant (λ r h. c.requires.laid r (omega arith)) b in
    let q : c.end_of.result ≡ end_of c.args.nodes.now c.args.at = search rules in
    let k = rw q at c.try_push.ensures.ok in
    let v = c.try_push.ensures.variant in
    let room : IsOk c.try_push.result ↔ (depth c.args.nodes.now c.args.at ≤ 64) = (λ y. let l = v.0 y in omega (arith, l, d), λ l. v.1 (omega (arith, l, d))) in
    entered c.args.nodes.now c.args.at c.loop-self.self.ends.items c.try_push.result c.map_err.result _ _ (λ e f k. search (rules, tests)) c.map_err.ensures.cases room k o
