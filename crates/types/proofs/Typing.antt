-- What each operator treats, and that it gives one type.
use Rattle.std.proofs.Common.{◌≡◌, Bool, true, false, Some, None, Decides, Option, sym, refl, ◌∙◌, subst, inl, inr, MatchOption}
use borrow.Author.Tests.{clash}
use Rattle.std.specs.Bool.{then_some}
use Rattle.table.specs.declared.view.BinaryOp.{BinaryOp}
use Rattle.table.specs.declared.view.BinaryOp.TheVariants.{Divide, Minus, Modulo, Multiply, Plus, And, Or, Equals, NotEquals, Greater, GreaterOrEquals, Lower, LowerOrEquals}
use Rattle.table.specs.declared.view.UnaryOp.{UnaryOp}
use Rattle.table.specs.declared.view.UnaryOp.TheVariants.{Minus as Negate, Not}
use Rattle.values.specs.declared.types.«Type».{«Type» as Ty}
use Rattle.values.specs.declared.types.«Type».TheVariants.{Boolean, Float, Int}
use Rattle.types.specs.Operators.{UnaryTyped, ArithTyped, Arithmetic, Comparison, Equality, Logical, Reference, BinaryTyped, InstanceTyped, Number, Numbers, Both, Equatable}
use Rattle.types.specs.Operators.UnaryTyped.{minus_int, minus_float, not_boolean}
use Rattle.types.specs.Operators.ArithTyped.{int_int, int_float, float_int, float_float}
use Rattle.types.specs.Operators.InstanceTyped.{instance}
use Rattle.types.specs.Operators.BinaryTyped.{arithmetic, modulo, comparison, equality, logical}

-- P, and the type is x: decided by a test that gives x where it says yes
pub given_if : (P : Type 0) (x : Ty) (b : Bool) → Decides b P → (r : Option Ty) → r ≡ then_some b x → MatchOption r ((v : Ty) → P × (v ≡ x) → ⊥) (λ v. P × (v ≡ x))
given_if P x true d r e = subst (λ o. MatchOption o ((v : Ty) → P × (v ≡ x) → ⊥) (λ v. P × (v ≡ x))) (sym e) (d.0 refl, refl)
given_if P x false d r e = subst (λ o. MatchOption o ((v : Ty) → P × (v ≡ x) → ⊥) (λ v. P × (v ≡ x))) (sym e) (λ v h. clash (d.1 h.0))

-- the same answer for a relation that says the same
pub given_as : (R S : Ty → Type 0) → ((v : Ty) → R v → S v) → ((v : Ty) → S v → R v) → (r : Option Ty) → MatchOption r ((v : Ty) → R v → ⊥) R → MatchOption r ((v : Ty) → S v → ⊥) S
given_as R S f g None h = λ v s. h v (g v s)
given_as R S f g (Some v) h = f v h

pub instance_reference : {t u : Ty} → InstanceTyped t u → Reference t
instance_reference (instance r) = r

-- what a unary operator treats, and what it gives
abbrev pub UnaryRule : UnaryOp → Ty → Ty → Type 0
UnaryRule Negate t v = Number t × (v ≡ t)
UnaryRule Not t v = (t ≡ Boolean) × (v ≡ Boolean)

pub unary_rule : (o : UnaryOp) (t v : Ty) → UnaryTyped o t v → UnaryRule o t v
unary_rule o t v minus_int = (Number.int, refl)
unary_rule o t v minus_float = (Number.float, refl)
unary_rule o t v not_boolean = (refl, refl)

pub unary_typed : (o : UnaryOp) (t v : Ty) → UnaryRule o t v → UnaryTyped o t v
unary_typed Negate t v r = subst (UnaryTyped Negate t) (sym r.1) (negated r.0)
  where
    negated : {t : Ty} → Number t → UnaryTyped Negate t t
    negated Number.int = minus_int
    negated Number.float = minus_float
unary_typed Not t v r = rw (r.0, r.1) not_boolean

-- what answers for the rule of an operator answers for the operator
pub by_op : (o p : UnaryOp) (t : Ty) → o ≡ p → (r : Option Ty) → MatchOption r ((v : Ty) → UnaryRule p t v → ⊥) (λ v. UnaryRule p t v) → MatchOption r ((v : Ty) → UnaryTyped o t v → ⊥) (λ v. UnaryTyped o t v)
by_op o p t e r h =
    given_as (UnaryRule p t) (UnaryTyped o t)
    (λ v a. unary_typed o t v (subst (λ k. UnaryRule k t v) (sym e) a))
    (λ v a. subst (λ k. UnaryRule k t v) e (unary_rule o t v a))
    r h

pub unary_only : (o : UnaryOp) (t v w : Ty) → UnaryTyped o t v → UnaryTyped o t w → v ≡ w
unary_only o t v w minus_int minus_int = refl
unary_only o t v w minus_float minus_float = refl
unary_only o t v w not_boolean not_boolean = refl

pub arith_numbers : {t u v : Ty} → ArithTyped t u v → Numbers t u
arith_numbers int_int = (Number.int, Number.int)
arith_numbers int_float = (Number.int, Number.float)
arith_numbers float_int = (Number.float, Number.int)
arith_numbers float_float = (Number.float, Number.float)

-- arithmetic treats all numbers
pub numbers_arith : {t u : Ty} → Number t → Number u → (v : Ty) × ArithTyped t u v
numbers_arith Number.int Number.int = (Int, int_int)
numbers_arith Number.int Number.float = (Float, int_float)
numbers_arith Number.float Number.int = (Float, float_int)
numbers_arith Number.float Number.float = (Float, float_float)

-- and gives a float unless both are ints
pub numbers_float : {t u : Ty} → Number t → Number u → (Both Int t u → ⊥) → ArithTyped t u Float
numbers_float Number.int Number.int n = absurd (n (refl, refl))
numbers_float Number.int Number.float n = int_float
numbers_float Number.float Number.int n = float_int
numbers_float Number.float Number.float n = float_float

pub arith_only : {t u v w : Ty} → ArithTyped t u v → ArithTyped t u w → v ≡ w
arith_only int_int int_int = refl
arith_only int_float int_float = refl
arith_only float_int float_int = refl
arith_only float_float float_float = refl

-- the operators that treat the same operands and give the same types
pub data Group : Type 0 where
  computing : Group
  remainder : Group
  joining : Group
  equating : Group
  ordering : Group

abbrev pub group : BinaryOp → Group
group Plus = computing
group Minus = computing
group Multiply = computing
group Divide = computing
group Modulo = remainder
group And = joining
group Or = joining
group Equals = equating
group NotEquals = equating
group Lower = ordering
group Greater = ordering
group LowerOrEquals = ordering
group GreaterOrEquals = ordering

-- what the operators of a group treat, and what they give
abbrev pub Rule : Group → Ty → Ty → Ty → Type 0
Rule computing t u v = ArithTyped t u v
Rule remainder t u v = Both Int t u × (v ≡ Int)
Rule joining t u v = Both Boolean t u × (v ≡ Boolean)
Rule equating t u v = Equatable t u × (v ≡ Boolean)
Rule ordering t u v = Numbers t u × (v ≡ Boolean)

pub binary_rule : {o : BinaryOp} {t u v : Ty} → BinaryTyped o t u v → Rule (group o) t u v
binary_rule (arithmetic Arithmetic.plus a) = a
binary_rule (arithmetic Arithmetic.minus a) = a
binary_rule (arithmetic Arithmetic.multiply a) = a
binary_rule (arithmetic Arithmetic.divide a) = a
binary_rule modulo = ((refl, refl), refl)
binary_rule (comparison Comparison.equals a) = (inl (arith_numbers a), refl)
binary_rule (comparison Comparison.not_equals a) = (inl (arith_numbers a), refl)
binary_rule (comparison Comparison.lower a) = (arith_numbers a, refl)
binary_rule (comparison Comparison.greater a) = (arith_numbers a, refl)
binary_rule (comparison Comparison.lower_or_equals a) = (arith_numbers a, refl)
binary_rule (comparison Comparison.greater_or_equals a) = (arith_numbers a, refl)
binary_rule (equality Equality.equals r s) = (inr (inr (r, s)), refl)
binary_rule (equality Equality.not_equals r s) = (inr (inr (r, s)), refl)
binary_rule (logical Logical.and) = ((refl, refl), refl)
binary_rule (logical Logical.or) = ((refl, refl), refl)
binary_rule (logical Logical.equals) = (inr (inl (refl, refl)), refl)
binary_rule (logical Logical.not_equals) = (inr (inl (refl, refl)), refl)

compared : {o : BinaryOp} {t u v : Ty} → Comparison o → Numbers t u × (v ≡ Boolean) → BinaryTyped o t u v
compared {o} {t} {u} c r = subst (BinaryTyped o t u) (sym r.1) (comparison c (numbers_arith r.0.0 r.0.1).1)

joined : {o : BinaryOp} {t u v : Ty} → Logical o → Both Boolean t u × (v ≡ Boolean) → BinaryTyped o t u v
joined l r = rw (r.0.0, r.0.1, r.1) (logical l)

equated : {o : BinaryOp} {t u v : Ty} → Comparison o → Logical o → Equality o → Equatable t u × (v ≡ Boolean) → BinaryTyped o t u v
equated {o} {t} {u} {v} c l e r =
    elim r.0 [
      | inl n ↦ compared c (n, r.1)
      | inr s ↦ elim s [ inl b ↦ joined l (b, r.1) | inr p ↦ subst (BinaryTyped o t u) (sym r.1) (equality e p.0 p.1) ]
    ]

pub binary_typed : (o : BinaryOp) {t u v : Ty} → Rule (group o) t u v → BinaryTyped o t u v
binary_typed Plus r = arithmetic Arithmetic.plus r
binary_typed Minus r = arithmetic Arithmetic.minus r
binary_typed Multiply r = arithmetic Arithmetic.multiply r
binary_typed Divide r = arithmetic Arithmetic.divide r
binary_typed Modulo r = rw (r.0.0, r.0.1, r.1) modulo
binary_typed And r = joined Logical.and r
binary_typed Or r = joined Logical.or r
binary_typed Equals r = equated Comparison.equals Logical.equals Equality.equals r
binary_typed NotEquals r = equated Comparison.not_equals Logical.not_equals Equality.not_equals r
binary_typed Lower r = compared Comparison.lower r
binary_typed Greater r = compared Comparison.greater r
binary_typed LowerOrEquals r = compared Comparison.lower_or_equals r
binary_typed GreaterOrEquals r = compared Comparison.greater_or_equals r

rule_only : (g : Group) (t u v w : Ty) → Rule g t u v → Rule g t u w → v ≡ w
rule_only computing t u v w a b = arith_only a b
rule_only remainder t u v w a b = a.1 ∙ sym b.1
rule_only joining t u v w a b = a.1 ∙ sym b.1
rule_only equating t u v w a b = a.1 ∙ sym b.1
rule_only ordering t u v w a b = a.1 ∙ sym b.1

pub binary_only : (o : BinaryOp) (t u v w : Ty) → BinaryTyped o t u v → BinaryTyped o t u w → v ≡ w
binary_only o t u v w a b = rule_only (group o) t u v w (binary_rule a) (binary_rule b)

-- what answers for the rule of an operator's group answers for the operator
pub by_group : (o : BinaryOp) (g : Group) (t u : Ty) → group o ≡ g → (r : Option Ty) → MatchOption r ((v : Ty) → Rule g t u v → ⊥) (λ v. Rule g t u v) → MatchOption r ((v : Ty) → BinaryTyped o t u v → ⊥) (λ v. BinaryTyped o t u v)
by_group o g t u e r h =
    given_as (Rule g t u) (BinaryTyped o t u)
    (λ v a. binary_typed o (subst (λ k. Rule k t u v) (sym e) a))
    (λ v a. subst (λ k. Rule k t u v) e (binary_rule a))
    r h
