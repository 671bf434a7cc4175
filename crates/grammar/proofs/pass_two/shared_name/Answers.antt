use Rattle.std.proofs.Common.{◌≡◌, ◌+◌, ◌-◌, Some, ap, ◌∙◌, subst, rules, arith}
use Rattle.grammar.specs.declared.fault.Rule.TheVariants.{Members}
use Rattle.grammar.specs.Faults.{broken, in_member}
use Rattle.grammar.specs.PassTwo.{SharedName, shared_name}
use Rattle.grammar.proofs.pass_two.shared_name.Goals as goal

pub returns : goal.returns
returns c =
    let d = c.requires in
    let s = c.unwrap.result in
    let e : s ≡ c.args.kept + d.0 = search rules in
    let g : c.args.kept + d.0 ≡ c.args.kept + (s - c.args.kept) = omega (arith, e) in
    let f : in_member c.args.method.name (broken Members c.method-name.result.name) ≡ c.from.result = search rules in
    subst (SharedName c.args.batch.nodes.now c.args.kept c.args.method) f (shared_name (s - c.args.kept) (d.1 ∙ ap Some g) c.method-name.ensures.view)
