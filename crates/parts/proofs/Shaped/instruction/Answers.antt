use Rattle.std.proofs.Common.{true, ◌∙◌, rules, arith}
use Rattle.table.specs.Shape.{node_at}
use Rattle.table.specs.View.{view}
use Rattle.table.specs.declared.kinds.Class.TheVariants.{Instruction}
use Rattle.parts.proofs.Executed.{is_instruction, executed}
use Rattle.parts.proofs.Known.{kind_between}
use Rattle.parts.proofs.Shaped.instruction.Goals as goal

pub unreachable-requires : goal.unreachable-requires
unreachable-requires c =
    let T = c.args.self.nodes.now in
    let p = c.args.p in
    let b = kind_between Instruction (node_at T p) c.requires.class.admitted in
    let x = executed (view T p) (λ i. true) (is_instruction T p b.0 b.1) in
    c.in_default.not-Execute x.0 (c.view_of.ensures.value ∙ x.1)

pub returns : goal.returns
returns c =
    let T = c.args.self.nodes.now in
    let p = c.args.p in
    let b = kind_between Instruction (node_at T p) c.requires.class.admitted in
    record {
      view = search rules;
      stand = c.in-Execute.ensures.children (λ e. omega (arith, b.0, e));
    }
