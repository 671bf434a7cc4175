use Rattle.std.proofs.Common.{◌≡◌}
use Rattle.table.specs.Shape.{node_at}
use Rattle.table.specs.View.{view}
use Rattle.table.specs.declared.kinds.Class.TheVariants.{Expression}
use Rattle.table.specs.declared.view.Instruction.TheVariants.{Evaluate}
use Rattle.parts.proofs.Executed.{is_expression, executed, evaluated}
use Rattle.parts.proofs.Known.{kind_between}
use Rattle.parts.proofs.Shaped.expression.Goals as goal

pub unreachable-requires : goal.unreachable-requires
unreachable-requires c =
    let T = c.args.self.nodes.now in
    let p = c.args.p in
    let b = kind_between Expression (node_at T p) c.requires.class.admitted in
    let x = executed (view T p) _ (is_expression T p b.0 b.1) in
    let y = evaluated x.0 x.2 in
    let e = c.instruction.ensures.view in
    let v = x.1 in
    let w = y.1 in
    let i : c.instruction.result ≡ Evaluate y.0 = cc in
    c.in_default.not-Evaluate y.0 i

pub returns : goal.returns
returns c = record { view = c.in-Evaluate.ensures.view; stand = c.in-Evaluate.ensures.stand }
