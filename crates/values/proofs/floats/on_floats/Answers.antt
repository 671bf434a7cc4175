use Rattle.std.proofs.Common.{◌∙◌}
use Rattle.values.proofs.Orders.{float_compares}
use Rattle.values.proofs.floats.on_floats.Goals as goal

pub returns-in_default : goal.returns-in_default
returns-in_default c =
    c.on_comparison.ensures
    ∙ float_compares c.args.op c.args.x c.args.y c.in_default.not-Plus c.in_default.not-Minus c.in_default.not-Multiply c.in_default.not-Divide
