use Rattle.std.proofs.Common.{◌≡◌, Decides, rules}
use Rattle.table.specs.declared.view.UnaryOp.TheVariants.{Minus, Not}
use Rattle.values.specs.declared.types.«Type».TheVariants.{Boolean}
use Rattle.types.specs.Operators.{Number}
use Rattle.types.proofs.Typing.{given_if, by_op, unary_only}
use Rattle.types.proofs.operators.unary_type.Goals as goal

pub returns-in-Minus : goal.returns-in-Minus
returns-in-Minus c =
    record {
      result = by_op c.args.op Minus c.args.operand c.in-Minus.is _ (given_if (Number c.args.operand) _ _ c.is_number.ensures _ c.then_some.ensures);
      only = unary_only _ _;
    }

pub returns-in-Not : goal.returns-in-Not
returns-in-Not c =
    let d : Decides c.eq.result (c.args.operand ≡ Boolean) = search rules in
    record {
      result = by_op c.args.op Not c.args.operand c.in-Not.is _ (given_if (c.args.operand ≡ Boolean) _ _ d _ c.then_some-in-Not.ensures);
      only = unary_only _ _;
    }
