use Rattle.std.proofs.Common.{◌≡◌, ◌+◌, ◌≤◌, length, get_or, take, Some, None, sym, subst, inl, inr, arith, rules}
use Rattle.std.proofs.lemmas.Bool.{cases_eq}
use Rattle.std.proofs.lemmas.Result.{MatchResult-weaker}
use Rattle.table.specs.Shape.{node_at, end_of}
use Rattle.table.specs.View.{view, past}
use Rattle.table.specs.declared.view.View.TheVariants.{List as Elements}
use Rattle.table.specs.declared.kinds.Class.TheVariants.{Target, Expression}
use Rattle.table.specs.declared.kinds.Listed.TheVariants.{Expressions}
use Rattle.table.specs.declared.view.Expression.TheVariants.{Selection, Identifier}
use Rattle.values.specs.declared.types.«Type».TheVariants.{Void}
use Rattle.types.specs.Subtypes.{Assignable, Castable}
use Rattle.types.specs.Operators.{InstanceTyped}
use Rattle.parts.specs.Parts.{Is, symbol_at}
use Rattle.parts.proofs.Walks.{turn, walked}
use Rattle.parts.proofs.Known.{kind_between, seen}
use Rattle.library.specs.Environments.{type_env}
use Rattle.grammar.specs.PassTwo.{Names}
use Rattle.typing.specs.Expressions.{Expr, Lvalue, Rvalue, Args, BreaksExpr, BreaksLvalue, BreaksRvalue, BreaksArgs, Literal, Selects, typed, defined, types_of}
use Rattle.typing.specs.Checking.{batch, around}
use Rattle.typing.proofs.Arguments.{as_many, same_type, passed_below, passed_more, bad_here, bad_extra, bad_missing, good_all}
use Rattle.typing.proofs.ClassTypes.{no_class, no_method, a_field, no_field}
use Rattle.typing.proofs.Steps.{start, back, fore, noted, step, step_expr, carried, carried_expr, told, ended, stopped, lacking}
use Rattle.typing.proofs.checker.Checker.+expressions.Goals as goal

pub unary-returns-in_err-of-clause-answer : goal.unary-returns-in_err-of-clause-answer
unary-returns-in_err-of-clause-answer t c =
    carried_expr (start c.args.self.now) _ _ c.from_residual.result c.from_residual.ensures.1 (BreaksExpr.unary_operand c.requires.view) c.in_err-of.ensures.answer

pub unary-returns-in_err-found-clause-answer : goal.unary-returns-in_err-found-clause-answer
unary-returns-in_err-found-clause-answer t c =
    let g = step_expr (start c.args.self.now) c.expr.ensures.stays c.in_ok-of.ensures.answer in
    let h = c.in_err-found.ensures in
    let n = rw h.ok_part at c.unary_type.ensures.result in
    lacking g.after _ _ c.from_residual-in_err-found.result _ _ _ _ c.from_residual-in_err-found.ensures.1 h.value h.ok_part c.at.ensures (BreaksExpr.no_unary c.requires.view g.holds n)

pub unary-returns-clause-answer : goal.unary-returns-clause-answer
unary-returns-clause-answer t c =
    let g = step_expr (start c.args.self.now) c.expr.ensures.stays c.in_ok-of.ensures.answer in
    let r = rw c.in_ok-found.ensures.ok_part at c.unary_type.ensures.result in
    told g.after c.args.p c.note.ensures.stays c.note.ensures.left c.note.ensures.same (Expr.unary c.requires.view g.holds r)

pub binary-returns-in_err-first-clause-answer : goal.binary-returns-in_err-first-clause-answer
binary-returns-in_err-first-clause-answer t c =
    carried_expr (start c.args.self.now) _ _ c.from_residual.result c.from_residual.ensures.1 (BreaksExpr.binary_left c.requires.view) c.in_err-first.ensures.answer

pub binary-returns-in_err-second-clause-answer : goal.binary-returns-in_err-second-clause-answer
binary-returns-in_err-second-clause-answer t c =
    let g = step_expr (start c.args.self.now) c.expr.ensures.stays c.in_ok-first.ensures.answer in
    carried_expr g.after _ _ c.from_residual-in_err-second.result c.from_residual-in_err-second.ensures.1 (BreaksExpr.binary_right c.requires.view g.holds) c.in_err-second.ensures.answer

pub binary-returns-in_err-found-clause-answer : goal.binary-returns-in_err-found-clause-answer
binary-returns-in_err-found-clause-answer t c =
    let g = step_expr (start c.args.self.now) c.expr.ensures.stays c.in_ok-first.ensures.answer in
    let h = step_expr g.after c.expr-2.ensures.stays c.in_ok-second.ensures.answer in
    let i = c.in_err-found.ensures in
    let n = rw i.ok_part at c.binary_type.ensures.result in
    lacking h.after _ _ c.from_residual-in_err-found.result _ _ _ _ c.from_residual-in_err-found.ensures.1 i.value i.ok_part c.at.ensures (BreaksExpr.no_binary c.requires.view g.holds h.holds n)

pub binary-returns-clause-answer : goal.binary-returns-clause-answer
binary-returns-clause-answer t c =
    let g = step_expr (start c.args.self.now) c.expr.ensures.stays c.in_ok-first.ensures.answer in
    let h = step_expr g.after c.expr-2.ensures.stays c.in_ok-second.ensures.answer in
    let r = rw c.in_ok-found.ensures.ok_part at c.binary_type.ensures.result in
    told h.after c.args.p c.note.ensures.stays c.note.ensures.left c.note.ensures.same (Expr.binary c.requires.view g.holds h.holds r)

pub assign-returns-in_err-of-clause-answer : goal.assign-returns-in_err-of-clause-answer
assign-returns-in_err-of-clause-answer t c =
    carried (start c.args.self.now) (λ T x. BreaksLvalue T x c.args.target) _ _ _ c.from_residual.result _ c.from_residual.ensures.1 (BreaksExpr.assign_left c.requires.view) c.in_err-of.ensures.answer

pub assign-returns-in_err-rvalue-clause-answer : goal.assign-returns-in_err-rvalue-clause-answer
assign-returns-in_err-rvalue-clause-answer t c =
    let g = step (start c.args.self.now) (λ T x t. Lvalue T x c.args.target t) c.lvalue.new.self c.in_ok-of.of c.lvalue.ensures.stays c.in_ok-of.ensures.answer in
    carried g.after (λ T x. BreaksRvalue T x c.in_ok-of.of c.args.value) _ _ _ c.from_residual-in_err-rvalue.result _ c.from_residual-in_err-rvalue.ensures.1 (BreaksExpr.assign_right c.requires.view g.holds) c.in_err-rvalue.ensures.answer

pub assign-returns-clause-answer : goal.assign-returns-clause-answer
assign-returns-clause-answer t c =
    let g = step (start c.args.self.now) (λ T x t. Lvalue T x c.args.target t) c.lvalue.new.self c.in_ok-of.of c.lvalue.ensures.stays c.in_ok-of.ensures.answer in
    let h = step g.after (λ T x t. Rvalue T x c.in_ok-of.of c.args.value) c.rvalue.new.self c.in_ok-of.of c.rvalue.ensures.stays c.in_ok-rvalue.ensures.answer in
    told h.after c.args.p c.note.ensures.stays c.note.ensures.left c.note.ensures.same (Expr.assign c.requires.view g.holds h.holds)

pub cast-returns-in_err-of-clause-answer : goal.cast-returns-in_err-of-clause-answer
cast-returns-in_err-of-clause-answer t c =
    let h = c.in_err-of.ensures in
    stopped (start c.args.self.now) _ _ c.from_residual.result _ _ c.from_residual.ensures.1 h.1 (BreaksExpr.cast_type c.requires.view h.0)

pub cast-returns-in_err-from-clause-answer : goal.cast-returns-in_err-from-clause-answer
cast-returns-in_err-from-clause-answer t c =
    let a = noted (start c.args.self.now) c.note.new.self (typed c.args.to c.in_ok-of.of) c.note.ensures.stays (search rules) in
    carried_expr a _ _ c.from_residual-in_err-from.result c.from_residual-in_err-from.ensures.1 (BreaksExpr.cast_value c.requires.view c.in_ok-of.ensures) c.in_err-from.ensures.answer

pub cast-returns-then-not-is_castable-clause-answer : goal.cast-returns-then-not-is_castable-clause-answer
cast-returns-then-not-is_castable-clause-answer t c =
    let a = noted (start c.args.self.now) c.note.new.self (typed c.args.to c.in_ok-of.of) c.note.ensures.stays (search rules) in
    let h = step_expr a c.expr.ensures.stays c.in_ok-from.ensures.answer in
    let q : Castable c.hierarchy.result.classes.now c.in_ok-from.from c.in_ok-of.of → ⊥ = search rules in
    let k = back h.after (λ T x. Castable x.classes c.in_ok-from.from c.in_ok-of.of → ⊥) (subst (λ z. Castable z c.in_ok-from.from c.in_ok-of.of → ⊥) c.hierarchy.ensures q) in
    ended h.after c.at.ensures (BreaksExpr.no_cast c.requires.view c.in_ok-of.ensures h.holds k)

pub cast-returns-clause-answer : goal.cast-returns-clause-answer
cast-returns-clause-answer t c =
    let a = noted (start c.args.self.now) c.note.new.self (typed c.args.to c.in_ok-of.of) c.note.ensures.stays (search rules) in
    let h = step_expr a c.expr.ensures.stays c.in_ok-from.ensures.answer in
    let q : Castable c.hierarchy.result.classes.now c.in_ok-from.from c.in_ok-of.of = search rules in
    let k = back h.after (λ T x. Castable x.classes c.in_ok-from.from c.in_ok-of.of) (subst (λ z. Castable z c.in_ok-from.from c.in_ok-of.of) c.hierarchy.ensures q) in
    told h.after c.args.p c.note-2.ensures.stays c.note-2.ensures.left c.note-2.ensures.same (Expr.cast c.requires.view c.in_ok-of.ensures h.holds k)

pub instance_of-returns-in_err-of-clause-answer : goal.instance_of-returns-in_err-of-clause-answer
instance_of-returns-in_err-of-clause-answer t c =
    carried_expr (start c.args.self.now) _ _ c.from_residual.result c.from_residual.ensures.1 (BreaksExpr.instance_value c.requires.view) c.in_err-of.ensures.answer

pub instance_of-returns-in_err-asked-clause-answer : goal.instance_of-returns-in_err-asked-clause-answer
instance_of-returns-in_err-asked-clause-answer t c =
    let g = step_expr (start c.args.self.now) c.expr.ensures.stays c.in_ok-of.ensures.answer in
    let h = c.in_err-asked.ensures in
    let n = back g.after (λ T x. type_env x.classes (symbol_at T c.args.class) ≡ None) h.0 in
    stopped g.after _ _ c.from_residual-in_err-asked.result _ _ c.from_residual-in_err-asked.ensures.1 h.1 (BreaksExpr.instance_type c.requires.view g.holds n)

pub instance_of-returns-then-not-allows_instance_of-clause-answer : goal.instance_of-returns-then-not-allows_instance_of-clause-answer
instance_of-returns-then-not-allows_instance_of-clause-answer t c =
    let g = step_expr (start c.args.self.now) c.expr.ensures.stays c.in_ok-of.ensures.answer in
    let m = back g.after (λ T x. Names T x.classes c.args.class c.in_ok-asked.asked) c.in_ok-asked.ensures in
    let a = noted g.after c.note.new.self (typed c.args.class c.in_ok-asked.asked) c.note.ensures.stays c.note.ensures.left in
    let q : InstanceTyped c.in_ok-of.of c.in_ok-asked.asked → ⊥ = search rules in
    ended a c.at.ensures (BreaksExpr.no_instance c.requires.view g.holds m q)

pub instance_of-returns-clause-answer : goal.instance_of-returns-clause-answer
instance_of-returns-clause-answer t c =
    let g = step_expr (start c.args.self.now) c.expr.ensures.stays c.in_ok-of.ensures.answer in
    let m = back g.after (λ T x. Names T x.classes c.args.class c.in_ok-asked.asked) c.in_ok-asked.ensures in
    let a = noted g.after c.note.new.self (typed c.args.class c.in_ok-asked.asked) c.note.ensures.stays c.note.ensures.left in
    let q : InstanceTyped c.in_ok-of.of c.in_ok-asked.asked = search rules in
    told a c.args.p c.note-2.ensures.stays c.note-2.ensures.left c.note-2.ensures.same (Expr.instance_of c.requires.view g.holds m q)

pub selection-returns-in_err-class-clause-answer : goal.selection-returns-in_err-class-clause-answer
selection-returns-in_err-class-clause-answer t c =
    carried_expr (start c.args.self.now) _ _ c.from_residual.result c.from_residual.ensures.1 (BreaksLvalue.object c.requires.view) c.in_err-class.ensures.answer

pub selection-returns-in_default-clause-answer : goal.selection-returns-in_default-clause-answer
selection-returns-in_default-clause-answer t c =
    let g = step_expr (start c.args.self.now) c.expr.ensures.stays c.in_ok-class.ensures.answer in
    ended g.after c.at.ensures (BreaksLvalue.no_object c.requires.view g.holds (no_class _ c.in_default.not-Class))

pub selection-returns-in_err-found-clause-answer : goal.selection-returns-in_err-found-clause-answer
selection-returns-in_err-found-clause-answer t c =
    let g = step_expr (start c.args.self.now) c.expr.ensures.stays c.in_ok-class.ensures.answer in
    let d = subst (λ y. Expr (batch c.args.self.now) (around c.args.self.now) c.args.object y g.log) c.in-Class.is g.holds in
    let h = c.in_err-found.ensures in
    let n = back g.after (λ T x. x.members c.in-Class.class (symbol_at T c.args.field) ≡ None) h.0 in
    stopped g.after _ _ c.from_residual-in_err-found.result _ _ c.from_residual-in_err-found.ensures.1 h.1 (BreaksLvalue.no_field c.requires.view d n)

pub selection-returns-then-not-is_field-clause-answer : goal.selection-returns-then-not-is_field-clause-answer
selection-returns-then-not-is_field-clause-answer t c =
    let g = step_expr (start c.args.self.now) c.expr.ensures.stays c.in_ok-class.ensures.answer in
    let d = subst (λ y. Expr (batch c.args.self.now) (around c.args.self.now) c.args.object y g.log) c.in-Class.is g.holds in
    let m = back g.after (λ T x. x.members c.in-Class.class (symbol_at T c.args.field) ≡ Some c.in_ok-found.field-0) c.in_ok-found.ensures in
    let f = c.in_ok-found.field-0.definition in
    let q = no_field f.nature c.is_field.ensures c.if-not-is_field.true in
    ended g.after c.at-then-not-is_field.ensures (BreaksLvalue.other_field c.requires.view d m q)

pub selection-returns-then-not-may_select-clause-answer : goal.selection-returns-then-not-may_select-clause-answer
selection-returns-then-not-may_select-clause-answer t c =
    let g = step_expr (start c.args.self.now) c.expr.ensures.stays c.in_ok-class.ensures.answer in
    let d = subst (λ y. Expr (batch c.args.self.now) (around c.args.self.now) c.args.object y g.log) c.in-Class.is g.holds in
    let m = back g.after (λ T x. x.members c.in-Class.class (symbol_at T c.args.field) ≡ Some c.in_ok-found.field-0) c.in_ok-found.ensures in
    let f = c.in_ok-found.field-0.definition in
    let i = a_field f.nature c.is_field.ensures c.if-not-is_field.false in
    let a = noted g.after c.define.new.self (defined c.args.field f) c.define.ensures.stays c.define.ensures.left in
    let k = back a (λ T x. Selects x.classes x.class c.in-Class.class f.nature → ⊥) (search rules) in
    ended a c.at-then-not-may_select.ensures (BreaksLvalue.protected c.requires.view d m i k)

pub selection-returns-clause-answer : goal.selection-returns-clause-answer
selection-returns-clause-answer t c =
    let g = step_expr (start c.args.self.now) c.expr.ensures.stays c.in_ok-class.ensures.answer in
    let d = subst (λ y. Expr (batch c.args.self.now) (around c.args.self.now) c.args.object y g.log) c.in-Class.is g.holds in
    let m = back g.after (λ T x. x.members c.in-Class.class (symbol_at T c.args.field) ≡ Some c.in_ok-found.field-0) c.in_ok-found.ensures in
    let f = c.in_ok-found.field-0.definition in
    let a = noted g.after c.define.new.self (defined c.args.field f) c.define.ensures.stays c.define.ensures.left in
    let k = back a (λ T x. Selects x.classes x.class c.in-Class.class f.nature) (search rules) in
    told a c.args.p c.note.ensures.stays c.note.ensures.left c.note.ensures.same (Lvalue.selection c.requires.view d m k)

pub method_call-returns-in_err-class-clause-answer : goal.method_call-returns-in_err-class-clause-answer
method_call-returns-in_err-class-clause-answer t c =
    carried_expr (start c.args.self.now) _ _ c.from_residual.result c.from_residual.ensures.1 (BreaksExpr.receiver c.requires.view) c.in_err-class.ensures.answer

pub method_call-returns-in_default-clause-answer : goal.method_call-returns-in_default-clause-answer
method_call-returns-in_default-clause-answer t c =
    let g = step_expr (start c.args.self.now) c.expr.ensures.stays c.in_ok-class.ensures.answer in
    ended g.after c.at.ensures (BreaksExpr.no_receiver c.requires.view g.holds (no_class _ c.in_default.not-Class))

pub method_call-returns-in_err-found-clause-answer : goal.method_call-returns-in_err-found-clause-answer
method_call-returns-in_err-found-clause-answer t c =
    let g = step_expr (start c.args.self.now) c.expr.ensures.stays c.in_ok-class.ensures.answer in
    let d = subst (λ y. Expr (batch c.args.self.now) (around c.args.self.now) c.args.receiver y g.log) c.in-Class.is g.holds in
    let h = c.in_err-found.ensures in
    let n = back g.after (λ T x. x.members c.in-Class.class (symbol_at T c.args.method) ≡ None) h.0 in
    stopped g.after _ _ c.from_residual-in_err-found.result _ _ c.from_residual-in_err-found.ensures.1 h.1 (BreaksExpr.no_method c.requires.view d n)

pub method_call-returns-in_default-nature-clause-answer : goal.method_call-returns-in_default-nature-clause-answer
method_call-returns-in_default-nature-clause-answer t c =
    let g = step_expr (start c.args.self.now) c.expr.ensures.stays c.in_ok-class.ensures.answer in
    let d = subst (λ y. Expr (batch c.args.self.now) (around c.args.self.now) c.args.receiver y g.log) c.in-Class.is g.holds in
    let m = back g.after (λ T x. x.members c.in-Class.class (symbol_at T c.args.method) ≡ Some c.in_ok-found.field-0) c.in_ok-found.ensures in
    ended g.after c.at-in_default-nature.ensures (BreaksExpr.other_method c.requires.view d m (no_method _ c.in_default-nature.not-Method))

pub method_call-arguments-requires : goal.method_call-arguments-requires
method_call-arguments-requires t c =
    let s = c.args.self.now in
    let g = step (start s) (λ T x t. Expr T x c.args.receiver t) c.expr.new.self c.in_ok-class.field-0 c.expr.ensures.stays c.in_ok-class.ensures.answer in
    let f = c.in_ok-found.field-0.definition in
    let a = noted g.after c.define.new.self (defined c.args.method f) c.define.ensures.stays c.define.ensures.left in
    let r = c.elements.ensures.holds Expressions (rw a.stays.scene c.requires.children.1.1.0.is) in
    let e = back a (λ T x. c.elements.result.end ≡ end_of T c.args.args) c.elements.ensures.end in
    (omega (arith, c.decreases, c.elements.ensures.first, e, c.requires.children.1.1.0.smaller), (r.0, r.2))

pub method_call-returns-in_err-arguments-clause-answer : goal.method_call-returns-in_err-arguments-clause-answer
method_call-returns-in_err-arguments-clause-answer t c =
    let s = c.args.self.now in
    let g = step (start s) (λ T x t. Expr T x c.args.receiver t) c.expr.new.self c.in_ok-class.field-0 c.expr.ensures.stays c.in_ok-class.ensures.answer in
    let f = c.in_ok-found.field-0.definition in
    let a = noted g.after c.define.new.self (defined c.args.method f) c.define.ensures.stays c.define.ensures.left in
    let d = subst (λ y. Expr (batch c.args.self.now) (around c.args.self.now) c.args.receiver y g.log) c.in-Class.is g.holds in
    let m = back g.after (λ T x. x.members c.in-Class.class (symbol_at T c.args.method) ≡ Some c.in_ok-found.field-0) c.in_ok-found.ensures in
    let v = back a (λ T x. view T c.args.args ≡ Elements c.elements.result.first c.elements.result.end) c.elements.ensures.view in
    carried a (λ T x. BreaksArgs T x c.args.p c.elements.result.end (types_of c.in-Method.signature) c.elements.result.first) _ _ _ c.from_residual-in_err-arguments.result _ c.from_residual-in_err-arguments.ensures.1 (BreaksExpr.arguments c.requires.view d m c.in-Method.is v) c.in_err-arguments.ensures.answer

pub method_call-returns-clause-answer : goal.method_call-returns-clause-answer
method_call-returns-clause-answer t c =
    let s = c.args.self.now in
    let g = step (start s) (λ T x t. Expr T x c.args.receiver t) c.expr.new.self c.in_ok-class.field-0 c.expr.ensures.stays c.in_ok-class.ensures.answer in
    let f = c.in_ok-found.field-0.definition in
    let a = noted g.after c.define.new.self (defined c.args.method f) c.define.ensures.stays c.define.ensures.left in
    let d = subst (λ y. Expr (batch c.args.self.now) (around c.args.self.now) c.args.receiver y g.log) c.in-Class.is g.holds in
    let m = back g.after (λ T x. x.members c.in-Class.class (symbol_at T c.args.method) ≡ Some c.in_ok-found.field-0) c.in_ok-found.ensures in
    let v = back a (λ T x. view T c.args.args ≡ Elements c.elements.result.first c.elements.result.end) c.elements.ensures.view in
    let h = step a (λ T x t. Args T x c.elements.result.end (types_of c.in-Method.signature) c.elements.result.first) c.arguments.new.self Void c.arguments.ensures.stays c.in_ok-arguments.ensures.answer in
    told h.after c.args.p c.note.ensures.stays c.note.ensures.left c.note.ensures.same (Expr.method_call c.requires.view d m c.in-Method.is v h.holds)

pub rvalue-returns-in_err-of-clause-answer : goal.rvalue-returns-in_err-of-clause-answer
rvalue-returns-in_err-of-clause-answer t c =
    carried_expr (start c.args.self.now) _ _ c.from_residual.result c.from_residual.ensures.1 (BreaksRvalue.value) c.in_err-of.ensures.answer

pub rvalue-returns-then-not-is_assignable-clause-answer : goal.rvalue-returns-then-not-is_assignable-clause-answer
rvalue-returns-then-not-is_assignable-clause-answer t c =
    let g = step_expr (start c.args.self.now) c.expr.ensures.stays c.in_ok-of.ensures.answer in
    let q : Assignable c.hierarchy.result.classes.now c.args.want c.in_ok-of.of → ⊥ = search rules in
    let k = back g.after (λ T x. Assignable x.classes c.args.want c.in_ok-of.of → ⊥) (subst (λ z. Assignable z c.args.want c.in_ok-of.of → ⊥) c.hierarchy.ensures q) in
    ended g.after c.at.ensures (BreaksRvalue.no_value g.holds k)

pub rvalue-returns-clause-answer : goal.rvalue-returns-clause-answer
rvalue-returns-clause-answer t c =
    let g = step_expr (start c.args.self.now) c.expr.ensures.stays c.in_ok-of.ensures.answer in
    let q : Assignable c.hierarchy.result.classes.now c.args.want c.in_ok-of.of = search rules in
    let k = back g.after (λ T x. Assignable x.classes c.args.want c.in_ok-of.of) (subst (λ z. Assignable z c.args.want c.in_ok-of.of) c.hierarchy.ensures q) in
    record { log = g.log; holds = Rvalue.value g.holds k; left = g.after.left }

pub lvalue-unreachable-requires : goal.lvalue-unreachable-requires
lvalue-unreachable-requires t c =
    let T = batch c.args.self.now in
    let p = c.args.p in
    let b = kind_between Target (node_at T p) c.requires.admitted in
    let e = c.expression.ensures.view in
    elim (cases_eq (node_at T p).kind 47) [
      | inl i ↦ let v = seen T p 47 i in let r : c.expression.result ≡ Selection (p + 1) (past T (end_of T p) (p + 1)) = cc in c.in_default.not-Selection _ _ r
      | inr o ↦ let v = seen T p 48 (omega (arith, b.0, b.1, o)) in let r : c.expression.result ≡ Identifier (node_at T p).word = cc in c.in_default.not-Identifier _ r
    ]

pub expr-literal-requires-clause-holds : goal.expr-literal-requires-clause-holds
expr-literal-requires-clause-holds t c =
    Expr.read_int c.in-ReadInt.ensures.view

pub expr-literal-requires-in-ReadFloat-clause-holds : goal.expr-literal-requires-in-ReadFloat-clause-holds
expr-literal-requires-in-ReadFloat-clause-holds t c =
    Expr.read_float c.in-ReadFloat.ensures.view

pub expr-literal-requires-in-IntLiteral-clause-holds : goal.expr-literal-requires-in-IntLiteral-clause-holds
expr-literal-requires-in-IntLiteral-clause-holds t c =
    Expr.literal c.in-IntLiteral.ensures.view Literal.int

pub expr-literal-requires-in-FloatLiteral-clause-holds : goal.expr-literal-requires-in-FloatLiteral-clause-holds
expr-literal-requires-in-FloatLiteral-clause-holds t c =
    Expr.literal c.in-FloatLiteral.ensures.view Literal.float

pub expr-literal-requires-in-StringLiteral-clause-holds : goal.expr-literal-requires-in-StringLiteral-clause-holds
expr-literal-requires-in-StringLiteral-clause-holds t c =
    Expr.literal c.in-StringLiteral.ensures.view Literal.string

pub expr-literal-requires-in-BooleanLiteral-clause-holds : goal.expr-literal-requires-in-BooleanLiteral-clause-holds
expr-literal-requires-in-BooleanLiteral-clause-holds t c =
    Expr.literal c.in-BooleanLiteral.ensures.view Literal.boolean

pub expr-literal-requires-in-NullLiteral-clause-holds : goal.expr-literal-requires-in-NullLiteral-clause-holds
expr-literal-requires-in-NullLiteral-clause-holds t c =
    Expr.literal c.in-NullLiteral.ensures.view Literal.null

pub expr-returns-in-Selection-clause-answer : goal.expr-returns-in-Selection-clause-answer
expr-returns-in-Selection-clause-answer t c =
    MatchResult-weaker c.selection.result c.selection.ensures.answer (λ u h. record { log = h.log; holds = Expr.lvalue h.holds; left = h.left }) (λ f h. record { breaks = BreaksExpr.lvalue h.breaks; log = h.log; left = h.left })

pub expr-returns-in-Identifier-clause-answer : goal.expr-returns-in-Identifier-clause-answer
expr-returns-in-Identifier-clause-answer t c =
    MatchResult-weaker c.name.result c.name.ensures.answer (λ u h. record { log = h.log; holds = Expr.lvalue h.holds; left = h.left }) (λ f h. record { breaks = BreaksExpr.lvalue h.breaks; log = h.log; left = h.left })

pub arguments-loop-of-preserved : goal.arguments-loop-of-preserved
arguments-loop-of-preserved t c =
    let i = c.loop-of.invariant in
    let n = turn _ _ _ i.over _ _ (rw c.in_ok-next.ensures.ok_part at c.next.ensures.steps) in
    let a : length c.args.signature.types ≡ 8 = search rules in
    let l = as_many c.args.signature c.min.result (omega (arith, c.min.ensures)) a in
    let w = same_type c.args.signature c.min.result c.loop-of.of-index c.loop-of-test.true in
    let d = step i.passed.after (λ T x t. Rvalue T x (get_or (take c.min.result c.args.signature.types) c.loop-of.of-index Void) c.in_ok-next.next) c.rvalue.new.self (get_or (take c.min.result c.args.signature.types) c.loop-of.of-index Void) c.rvalue.ensures.stays c.in_ok-rvalue.ensures.answer in
    record {
      passed = passed_more _ _ _ _ _ i.passed c.rvalue.new.self (get_or (take c.min.result c.args.signature.types) c.loop-of.of-index Void) c.in_ok-next.next _ (sym n.at) n.before (omega (arith, l, c.loop-of-test.true)) w (sym n.next) d;
      over = n.over;
    }

pub arguments-returns-in-Some-clause-answer : goal.arguments-returns-in-Some-clause-answer
arguments-returns-in-Some-clause-answer t c =
    let i = c.loop-of.invariant in
    let n = turn _ _ _ i.over _ _ (rw c.in-Some.is at c.next-2.ensures.steps) in
    let a : length c.args.signature.types ≡ 8 = search rules in
    let l = as_many c.args.signature c.min.result (omega (arith, c.min.ensures)) a in
    ended i.passed.after c.at-in-Some.ensures (bad_extra _ _ _ _ _ i.passed c.in-Some.extra (sym n.at) n.before (omega (arith, l, c.loop-of-test.false)))

pub arguments-rvalue-requires : goal.arguments-rvalue-requires
arguments-rvalue-requires t c =
    let i = c.loop-of.invariant in
    let n = turn _ _ _ i.over _ _ (rw c.in_ok-next.ensures.ok_part at c.next.ensures.steps) in
    let b = passed_below _ _ _ _ _ i.passed c.in_ok-next.next (sym n.at) n.before in
    let k = fore i.passed.after (λ T. Is T Expression c.in_ok-next.next × ((node_at T c.in_ok-next.next).size + c.args.list.first ≤ c.args.list.end)) b in
    (omega (arith, c.decreases, k.1), k.0)

pub arguments-returns-in_err-rvalue-clause-answer : goal.arguments-returns-in_err-rvalue-clause-answer
arguments-returns-in_err-rvalue-clause-answer t c =
    let i = c.loop-of.invariant in
    let n = turn _ _ _ i.over _ _ (rw c.in_ok-next.ensures.ok_part at c.next.ensures.steps) in
    let a : length c.args.signature.types ≡ 8 = search rules in
    let l = as_many c.args.signature c.min.result (omega (arith, c.min.ensures)) a in
    let w = same_type c.args.signature c.min.result c.loop-of.of-index c.loop-of-test.true in
    carried i.passed.after (λ T x. BreaksRvalue T x (get_or (take c.min.result c.args.signature.types) c.loop-of.of-index Void) c.in_ok-next.next) _ _ _ c.from_residual-in_err-rvalue.result _ c.from_residual-in_err-rvalue.ensures.1 (bad_here _ _ _ _ _ i.passed (get_or (take c.min.result c.args.signature.types) c.loop-of.of-index Void) c.in_ok-next.next _ (sym n.at) n.before (omega (arith, l, c.loop-of-test.true)) w) c.in_err-rvalue.ensures.answer

pub arguments-returns-in_err-next-clause-answer : goal.arguments-returns-in_err-next-clause-answer
arguments-returns-in_err-next-clause-answer t c =
    let i = c.loop-of.invariant in
    let h = c.in_err-next.ensures in
    let n = rw h.ok_part at c.next.ensures.steps in
    let a : length c.args.signature.types ≡ 8 = search rules in
    let l = as_many c.args.signature c.min.result (omega (arith, c.min.ensures)) a in
    lacking i.passed.after _ _ c.from_residual.result _ _ _ _ c.from_residual.ensures.1 h.value h.ok_part c.at.ensures (bad_missing _ _ _ _ _ i.passed (walked _ _ _ i.over n.0) (omega (arith, l, c.loop-of-test.true)))

pub arguments-returns-in-None-clause-answer : goal.arguments-returns-in-None-clause-answer
arguments-returns-in-None-clause-answer t c =
    let i = c.loop-of.invariant in
    let n = rw c.in-None.is at c.next-2.ensures.steps in
    let a : length c.args.signature.types ≡ 8 = search rules in
    let l = as_many c.args.signature c.min.result (omega (arith, c.min.ensures)) a in
    record { log = i.passed.log; holds = good_all _ _ _ _ _ i.passed (walked _ _ _ i.over n.0) (omega (arith, l, c.loop-of-test.false)); left = i.passed.after.left }
