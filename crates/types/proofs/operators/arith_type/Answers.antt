use Rattle.std.proofs.Common.{◌≡◌, sym, subst}
use Rattle.values.specs.declared.types.«Type».TheVariants.{Float, Int}
use Rattle.types.specs.Operators.{ArithTyped, Both, Numbers}
use Rattle.types.specs.Operators.ArithTyped.{int_int}
use Rattle.types.proofs.Typing.{given_as, given_if, arith_numbers, arith_only, numbers_float}
use Rattle.types.proofs.operators.arith_type.Goals as goal
use Rattle.types.proofs.operators.arith_type.Goals.{in_default-via-in-Int+in_default, in_default-via-in_default}

pub returns-in-Int-Int : goal.returns-in-Int-Int
returns-in-Int-Int c = rw (c.in-Int-Int.is-0, c.in-Int-Int.is-1) int_int

pub returns-in_default : goal.returns-in_default
returns-in_default c =
    let t = c.args.left in
    let u = c.args.right in
    let b : Both Int t u → ⊥ = λ p.
    elim c.in_default.branch [
      | in_default-via-in-Int+in_default w ↦ w.in_default.not-Int-1 p.1
      | in_default-via-in_default w ↦ w.in_default.not-Int-0 p.0
    ]
    in
    given_as (λ v. Numbers t u × (v ≡ Float)) (ArithTyped t u)
    (λ v h. subst (ArithTyped t u) (sym h.1) (numbers_float h.0.0 h.0.1 b))
    (λ v a. let n = arith_numbers a in (n, arith_only a (numbers_float n.0 n.1 b)))
    _ (given_if (Numbers t u) Float _ c.numbers.ensures _ c.then_some.ensures)
