-- Expressions are settled.
use Rattle.std.proofs.Common.{ℕ, zero, suc, ◌≤◌, List, Ok, Err, Option, Result, refl, ap, arith}
use Rattle.table.specs.declared.kinds.Node.{Node}
use Rattle.values.specs.declared.types.«Type».{«Type» as Ty}
use Rattle.types.specs.declared.class.Class.{Class}
use Rattle.library.specs.declared.definition.Nature.{Nature}
use Rattle.grammar.specs.declared.fault.RuleFault.{RuleFault}
use Rattle.grammar.proofs.Verdicts.{Settled, settled, good, bad, on, off}
use Rattle.library.specs.declared.definition.Nature.TheVariants.{Param, Var, Method, Field}
use Rattle.typing.specs.Settings.{Setting, Log}
use Rattle.typing.specs.Expressions.{Expr, Lvalue, Rvalue, Args, BreaksExpr, BreaksLvalue, BreaksRvalue, BreaksArgs, Selects, IsField}
use Rattle.typing.specs.Settled.{SettledExpr}
use Rattle.typing.proofs.Deep.{Deep, always, with_one, with_two, deep_one}
use Rattle.typing.proofs.Evaluating.{Found, LvalueV, RvalueV, ArgsV, NodeV, ExprV, left_node, literal_rule, nothing, no_class, lvalue_one, rvalue_one, args_one, expr_one}

selects_field : (cs : List Class) (o : Option ℕ) (k : ℕ) (n : Nature) → Selects cs o k n → IsField n
selects_field cs o k Param s = s
selects_field cs o k Var s = s
selects_field cs o k (Method r) s = s
selects_field cs o k (Field v c i) s = tt

module _ (T : List Node) (x : Setting) where
  -- an expression is one deeper than those below it
  node : (p : ℕ) (r : Result Found RuleFault) → Deep (λ n. NodeV T x (ExprV T x n) p r) → Deep (λ n. ExprV T x n p r)
  node p r d = record { from = suc d.from; holds = deeper }
    where
      deeper : (n : ℕ) → suc d.from ≤ n → ExprV T x n p r
      deeper zero h = absurd (omega arith)
      deeper (suc n) h = d.holds n (omega arith)

  -- what follows the rules has a verdict with its result
  mutual
    expr : {p : ℕ} {t : Ty} {W : Log} → Expr T x p t W → Deep (λ n. ExprV T x n p (Ok (t, W)))
    expr (Expr.assign e a b) = node _ _ (with_two (lvalue a) (rvalue b) λ n v w. on (good e) (on v (on w refl)))
    expr (Expr.binary e a b s) = node _ _ (with_two (expr a) (expr b) λ n v w. on (good e) (on v (on w (on (good s) refl))))
    expr (Expr.lvalue a) = node _ _ (with_one (lvalue a) λ n. left_node T x (ExprV T x n))
    expr (Expr.read_int e) = node _ _ (always λ n. on (good e) refl)
    expr (Expr.read_float e) = node _ _ (always λ n. on (good e) refl)
    expr (Expr.unary e a s) = node _ _ (with_one (expr a) λ n v. on (good e) (on v (on (good s) refl)))
    expr (Expr.literal e l) = node _ _ (always λ n. on (good e) (literal_rule T x (ExprV T x n) _ l))
    expr (Expr.cast e n a c) = node _ _ (with_one (expr a) λ m v. on (good e) (on (good n) (on v (good (c, refl)))))
    expr (Expr.instance_of e a n i) = node _ _ (with_one (expr a) λ m v. on (good e) (on v (on (good n) (good (i, refl)))))
    expr (Expr.method_call {p = p} e a m s l b) = node _ _ (with_two (expr a) (args p b) λ n v w. on (good e) (on v (on (good refl) (on (good m) (on (good s) (on (good l) (on w refl)))))))
    expr (Expr.new e n i) = node _ _ (always λ m. on (good e) (on (good n) (good (i, refl))))
    expr (Expr.this e k) = node _ _ (always λ n. on (good e) (on (good k) refl))

    lvalue : {p : ℕ} {t : Ty} {W : Log} → Lvalue T x p t W → Deep (λ n. LvalueV T x (ExprV T x n) p (Ok (t, W)))
    lvalue (Lvalue.name e d v) = always λ n. LvalueV.name e (on (good d) (good (v, refl)))
    lvalue (Lvalue.selection e a m s) = with_one (expr a) λ n v. LvalueV.selection e (on v (on (good refl) (on (good m) (on (good (selects_field _ _ _ _ s, refl)) (good (s, refl))))))

    rvalue : {t : Ty} {p : ℕ} {W : Log} → Rvalue T x t p W → Deep (λ n. RvalueV T x (ExprV T x n) t p (Ok W))
    rvalue (Rvalue.value a s) = with_one (expr a) λ n v. on v (good (s, refl))

    args : (c : ℕ) {e : ℕ} {ts : List Ty} {q : ℕ} {W : Log} → Args T x e ts q W → Deep (λ n. ArgsV T x (ExprV T x n) c e ts q (Ok W))
    args c Args.none = always λ n. good (refl, refl)
    args c (Args.more h a b) = with_two (rvalue a) (args c b) λ n v w. on (good (h, refl)) (on v (on w refl))

  -- what breaks one first has a verdict with its fault
  mutual
    breaks_expr : {p : ℕ} {f : RuleFault} → BreaksExpr T x p f → Deep (λ n. ExprV T x n p (Err f))
    breaks_expr (BreaksExpr.assign_left e b) = node _ _ (with_one (breaks_lvalue b) λ n v. on (good e) (off v))
    breaks_expr (BreaksExpr.assign_right e a b) = node _ _ (with_two (lvalue a) (breaks_rvalue b) λ n v w. on (good e) (on v (off w)))
    breaks_expr (BreaksExpr.binary_left e b) = node _ _ (with_one (breaks_expr b) λ n v. on (good e) (off v))
    breaks_expr (BreaksExpr.binary_right e a b) = node _ _ (with_two (expr a) (breaks_expr b) λ n v w. on (good e) (on v (off w)))
    breaks_expr (BreaksExpr.no_binary e a b s) = node _ _ (with_two (expr a) (expr b) λ n v w. on (good e) (on v (on w (off (bad (s, refl))))))
    breaks_expr (BreaksExpr.lvalue b) = node _ _ (with_one (breaks_lvalue b) λ n. left_node T x (ExprV T x n))
    breaks_expr (BreaksExpr.unary_operand e b) = node _ _ (with_one (breaks_expr b) λ n v. on (good e) (off v))
    breaks_expr (BreaksExpr.no_unary e a s) = node _ _ (with_one (expr a) λ n v. on (good e) (on v (off (bad (s, refl)))))
    breaks_expr (BreaksExpr.cast_type e n) = node _ _ (always λ m. on (good e) (off (nothing _ n)))
    breaks_expr (BreaksExpr.cast_value e n b) = node _ _ (with_one (breaks_expr b) λ m v. on (good e) (on (good n) (off v)))
    breaks_expr (BreaksExpr.no_cast e n a c) = node _ _ (with_one (expr a) λ m v. on (good e) (on (good n) (on v (bad (c, refl)))))
    breaks_expr (BreaksExpr.instance_value e b) = node _ _ (with_one (breaks_expr b) λ n v. on (good e) (off v))
    breaks_expr (BreaksExpr.instance_type e a n) = node _ _ (with_one (expr a) λ m v. on (good e) (on v (off (nothing _ n))))
    breaks_expr (BreaksExpr.no_instance e a n i) = node _ _ (with_one (expr a) λ m v. on (good e) (on v (on (good n) (bad (i, refl)))))
    breaks_expr (BreaksExpr.receiver e b) = node _ _ (with_one (breaks_expr b) λ n v. on (good e) (off v))
    breaks_expr (BreaksExpr.no_receiver e a c) = node _ _ (with_one (expr a) λ n v. on (good e) (on v (off (no_class _ c))))
    breaks_expr (BreaksExpr.no_method e a m) = node _ _ (with_one (expr a) λ n v. on (good e) (on v (on (good refl) (off (nothing _ m)))))
    breaks_expr (BreaksExpr.other_method e a m s) = node _ _ (with_one (expr a) λ n v. on (good e) (on v (on (good refl) (on (good m) (off (bad (λ z i. s (rw i tt), refl)))))))
    breaks_expr (BreaksExpr.arguments e a m s l b) = node _ _ (with_two (expr a) (breaks_args b) λ n v w. on (good e) (on v (on (good refl) (on (good m) (on (good s) (on (good l) (off w)))))))
    breaks_expr (BreaksExpr.new_type e n) = node _ _ (always λ m. on (good e) (off (nothing _ n)))
    breaks_expr (BreaksExpr.no_new e n c) = node _ _ (always λ m. on (good e) (on (good n) (bad (c, refl))))
    breaks_expr (BreaksExpr.no_this e k) = node _ _ (always λ n. on (good e) (off (nothing _ k)))

    breaks_lvalue : {p : ℕ} {f : RuleFault} → BreaksLvalue T x p f → Deep (λ n. LvalueV T x (ExprV T x n) p (Err f))
    breaks_lvalue (BreaksLvalue.no_name e d) = always λ n. LvalueV.name e (off (nothing _ d))
    breaks_lvalue (BreaksLvalue.no_variable e d v) = always λ n. LvalueV.name e (on (good d) (bad (v, refl)))
    breaks_lvalue (BreaksLvalue.object e b) = with_one (breaks_expr b) λ n v. LvalueV.selection e (off v)
    breaks_lvalue (BreaksLvalue.no_object e a c) = with_one (expr a) λ n v. LvalueV.selection e (on v (off (no_class _ c)))
    breaks_lvalue (BreaksLvalue.no_field e a m) = with_one (expr a) λ n v. LvalueV.selection e (on v (on (good refl) (off (nothing _ m))))
    breaks_lvalue (BreaksLvalue.other_field e a m f) = with_one (expr a) λ n v. LvalueV.selection e (on v (on (good refl) (on (good m) (off (bad (f, refl))))))
    breaks_lvalue (BreaksLvalue.protected e a m f s) = with_one (expr a) λ n v. LvalueV.selection e (on v (on (good refl) (on (good m) (on (good (f, refl)) (bad (s, refl))))))

    breaks_rvalue : {t : Ty} {p : ℕ} {f : RuleFault} → BreaksRvalue T x t p f → Deep (λ n. RvalueV T x (ExprV T x n) t p (Err f))
    breaks_rvalue (BreaksRvalue.value b) = with_one (breaks_expr b) λ n v. off v
    breaks_rvalue (BreaksRvalue.no_value a s) = with_one (expr a) λ n v. on v (bad (s, refl))

    breaks_args : {c e : ℕ} {ts : List Ty} {q : ℕ} {f : RuleFault} → BreaksArgs T x c e ts q f → Deep (λ n. ArgsV T x (ExprV T x n) c e ts q (Err f))
    breaks_args (BreaksArgs.extra h) = always λ n. bad (h, refl)
    breaks_args BreaksArgs.missing = always λ n. off (bad (refl, refl))
    breaks_args (BreaksArgs.here h b) = with_one (breaks_rvalue b) λ n v. on (good (h, refl)) (off v)
    breaks_args (BreaksArgs.later h a b) = with_two (rvalue a) (breaks_args b) λ n v w. on (good (h, refl)) (on v (off w))

  pub settled_lvalue : (p : ℕ) → Settled {X = Found} (λ i. Lvalue T x p i.0 i.1) (BreaksLvalue T x p)
  settled_lvalue p = settled _ (deep_one (λ n. LvalueV T x (ExprV T x n) p) (λ n. lvalue_one T x (ExprV T x n) (expr_one T x n) p)) (λ i. lvalue) (λ f. breaks_lvalue)

  pub settled_rvalue : (t : Ty) (p : ℕ) → Settled (Rvalue T x t p) (BreaksRvalue T x t p)
  settled_rvalue t p = settled _ (deep_one (λ n. RvalueV T x (ExprV T x n) t p) (λ n. rvalue_one T x (ExprV T x n) (expr_one T x n) t p)) (λ W. rvalue) (λ f. breaks_rvalue)

  pub settled_args : (c e : ℕ) (ts : List Ty) (q : ℕ) → Settled (Args T x e ts q) (BreaksArgs T x c e ts q)
  settled_args c e ts q = settled _ (deep_one (λ n. ArgsV T x (ExprV T x n) c e ts q) (λ n. args_one T x (ExprV T x n) (expr_one T x n) c e ts q)) (λ W. args c) (λ f. breaks_args)

  pub settled_expr : (p : ℕ) → SettledExpr T x p
  settled_expr p =
      let s = settled {X = Found} {G = λ i. Expr T x p i.0 i.1} {B = BreaksExpr T x p} _ (deep_one (λ n. ExprV T x n p) (λ n. expr_one T x n p)) (λ i. expr) (λ f. breaks_expr) in
      record {
        one_type = λ t u V W a b. ap (λ i. i.0) (s.one_result (t, V) (u, W) a b);
        one_log = λ t u V W a b. ap (λ i. i.1) (s.one_result (t, V) (u, W) a b);
        one_fault = s.one_fault;
        one_way = λ t W f a b. s.one_way (t, W) f a b;
      }
