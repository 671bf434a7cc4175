-- What the equality and the order of floats answer is what the operators give.
use Rattle.std.proofs.Common.{◌≡◌, refl, arith}
use Rattle.std.specs.Prelude.{T}
use Rattle.std.specs.Ordering.{float_partial_cmp}
use Rattle.std.proofs.lemmas.Float.{lt_irrefl, lt_trans, eq_flip, eq-not_lt, floats_per}
use lib.Ieee.{Float, lt, le, eq, ne}
use Rattle.table.specs.declared.view.BinaryOp.{BinaryOp}
use Rattle.table.specs.declared.view.BinaryOp.TheVariants.{Divide, Minus, Modulo, Multiply, Plus, And, Or, Equals, NotEquals, Greater, GreaterOrEquals, Lower, LowerOrEquals}
use Rattle.values.specs.Operators.{comparison_result, float_result}

one_way : (x y : Float) → T (lt x y) → T (lt y x) → ⊥
one_way x y h k = lt_irrefl x (lt_trans x y x h k)

same_not_below : (x y : Float) → T (eq x y) → T (lt y x) → ⊥
same_not_below x y e = eq-not_lt y x (eq_flip x y e)

pub float_compares : (o : BinaryOp) (x y : Float) → (o ≡ Plus → ⊥) → (o ≡ Minus → ⊥) → (o ≡ Multiply → ⊥) → (o ≡ Divide → ⊥) → comparison_result eq float_partial_cmp o x y ≡ float_result o x y
unfolding le ne
float_compares Plus x y f g h k = absurd (f refl)
float_compares Minus x y f g h k = absurd (g refl)
float_compares Multiply x y f g h k = absurd (h refl)
float_compares Divide x y f g h k = absurd (k refl)
float_compares Modulo x y f g h k = refl
float_compares And x y f g h k = refl
float_compares Or x y f g h k = refl
float_compares Equals x y f g h k = refl
float_compares NotEquals x y f g h k = refl
float_compares Lower x y f g h k = grind arith
float_compares LowerOrEquals x y f g h k = grind arith
float_compares Greater x y f g h k = grind (arith, one_way x y, same_not_below x y, floats_per.symm x y)
float_compares GreaterOrEquals x y f g h k = grind (arith, one_way x y, eq-not_lt x y, floats_per.symm x y)
