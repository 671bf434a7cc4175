use Rattle.std.proofs.Common.{◌≡◌, ◌<◌, ◌≤◌, Err, MatchResult, sym, refl, subst, arith, below_more, rules}
use Rattle.std.proofs.lemmas.Grind.{common_steps}
use borrow.Author.Tests.{tests}
use Rattle.table.specs.Shape.{Few, Placed, Worded, Formed, Refused, node_at, depth, layout, word, deep, many, first}
use Rattle.table.specs.declared.shape.ShapeFault.TheVariants.{Layout, Depth}
use Rattle.table.proofs.Verdict.{formed}
use Rattle.table.proofs.shape.check_shape.Goals as goal

pub returns-then-not-contains-clause-verdict : goal.returns-then-not-contains-clause-verdict
returns-then-not-contains-clause-verdict c = many (λ f. let l = f.least in let m = f.most in search (rules, tests))

pub returns-in_err-kind-clause-verdict : goal.returns-in_err-kind-clause-verdict
returns-in_err-kind-clause-verdict c =
    let few : Few c.args.nodes.now = record { least = search rules; most = search rules } in
    let no : (Placed c.args.nodes.now c.loop-at.at → ⊥) = grind (arith, common_steps) in
    let e : c.from_residual.result ≡ Err (Layout c.loop-at.at) = search rules in
    subst (λ r. MatchResult r (λ _. Formed c.args.nodes.now) (Refused c.args.nodes.now)) (sym e) (first few _ c.loop-at-test.true c.loop-at.invariant.0 (layout no))

pub returns-then-not-allows-clause-verdict : goal.returns-then-not-allows-clause-verdict
returns-then-not-allows-clause-verdict c =
    let few : Few c.args.nodes.now = record { least = search rules; most = search rules } in
    let p : Placed c.args.nodes.now c.loop-at.at = search rules in
    let no : (Worded (node_at c.args.nodes.now c.loop-at.at) → ⊥) = grind (arith, common_steps) in
    first few _ c.loop-at-test.true c.loop-at.invariant.0 (word p no)

pub enter-requires-clause-laid : goal.enter-requires-clause-laid
enter-requires-clause-laid c =
    let p : Placed c.args.nodes.now c.loop-at.at = search rules in
    below_more _ _ (λ q h. (c.loop-at.invariant.0 q h).placed.laid) p.laid

pub returns-in_err-enter-clause-verdict : goal.returns-in_err-enter-clause-verdict
returns-in_err-enter-clause-verdict c =
    let few : Few c.args.nodes.now = record { least = search rules; most = search rules } in
    let p : Placed c.args.nodes.now c.loop-at.at = search rules in
    let w : Worded (node_at c.args.nodes.now c.loop-at.at) = grind (arith, common_steps) in
    let d : 64 < depth c.args.nodes.now c.loop-at.at = search rules in
    let e : c.from_residual-in_err-enter.result ≡ Err (Depth c.loop-at.at) = search rules in
    subst (λ r. MatchResult r (λ _. Formed c.args.nodes.now) (Refused c.args.nodes.now)) (sym e) (first few _ c.loop-at-test.true c.loop-at.invariant.0 (deep p w d))

pub loop-at-preserved : goal.loop-at-preserved
loop-at-preserved c =
    let p : Placed c.args.nodes.now c.loop-at.at = search rules in
    let w : Worded (node_at c.args.nodes.now c.loop-at.at) = grind (arith, common_steps) in
    let d : depth c.args.nodes.now c.loop-at.at ≤ 64 = search rules in
    (below_more _ _ c.loop-at.invariant.0 (record { placed = p; worded = w; shallow = d }), search rules)

pub returns-clause-verdict : goal.returns-clause-verdict
returns-clause-verdict c =
    let few : Few c.args.nodes.now = record { least = search rules; most = search rules } in
    formed _ few (λ p h. c.loop-at.invariant.0 p (omega arith))
