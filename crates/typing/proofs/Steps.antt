-- A check goes from state to state of one checker. What holds in a later state, of a library with more attributes, holds in the first one.
use Rattle.std.proofs.Common.{◌≡◌, ℕ, List, [], ◌++◌, IsErrAnd, None, Err, Option, Result, MatchResult, ok_or, sym, refl, ap, ◌∙◌, subst}
use Rattle.table.specs.declared.kinds.Node.{Node}
use Rattle.values.specs.declared.types.«Type».{«Type» as Ty}
use Rattle.library.specs.Contents.{Contents}
use Rattle.grammar.specs.declared.fault.RuleFault.{RuleFault}
use Rattle.typing.specs.declared.checker.Checker.{Checker}
use Rattle.typing.specs.declared.checker.Scene.{Scene}
use Rattle.typing.specs.Settings.{Setting, setting, Log, with_log}
use Rattle.typing.specs.Expressions.{Expr, BreaksExpr, typed}
use Rattle.grammar.proofs.Exits.{exit}
use Rattle.typing.specs.Checked.{Accepted, Broken}
use Rattle.typing.specs.Checking.{batch, held, around, Stays}
use Rattle.typing.proofs.Logs.{then_log, after_setting}

-- t comes after s, with the attributes of W
pub record After (s t : Checker) (W : Log) : Type 0 where
  pub stays : Stays s t
  pub left : held t ≡ with_log s.scene.kept W (held s)

pub start : (s : Checker) → After s s []
start s = record { stays = record { scene = refl; library = refl }; left = refl }

-- what a relation accepts in s, where u is reached
pub record Step (J : List Node → Setting → Ty → Log → Type 0) (s u : Checker) (V : Log) (r : Ty) : Type 0 where
  pub log : Log
  pub holds : J (batch s) (around s) r log
  pub after : After s u (V ++ log)

module _ {s t : Checker} {V : Log} (a : After s t V) where
  same_around : around t ≡ around s
  same_around = ap (λ (c : Scene). setting (held t) c.class c.locals.now) a.stays.scene ∙ after_setting s.scene.kept (held s) V s.scene.class s.scene.locals.now a.left

  pub back : (J : List Node → Setting → Type 0) → J (batch t) (around t) → J (batch s) (around s)
  back J j = subst (J (batch s)) same_around (subst (λ (c : Scene). J c.batch.nodes.now (around t)) a.stays.scene j)

  pub fore : (J : List Node → Type 0) → J (batch s) → J (batch t)
  fore J j = subst (λ (c : Scene). J c.batch.nodes.now) (sym a.stays.scene) j

  more : (v : Contents) (W : Log) → v ≡ with_log t.scene.kept W (held t) → v ≡ with_log s.scene.kept (V ++ W) (held s)
  more v W e = then_log s.scene.kept (held s) V W a.left (subst (λ (c : Scene). v ≡ with_log c.kept W (held t)) a.stays.scene e)

  pub noted : (u : Checker) (W : Log) → Stays t u → held u ≡ with_log t.scene.kept W (held t) → After s u (V ++ W)
  noted u W y e = record { stays = record { scene = y.scene ∙ a.stays.scene; library = y.library ∙ a.stays.library }; left = more (held u) W e }

  pub step : (J : List Node → Setting → Ty → Log → Type 0) (u : Checker) (r : Ty) → Stays t u → Accepted (J (batch t) (around t)) t.scene.kept (held t) (held u) r → Step J s u V r
  step J u r y h = record { log = h.log; holds = back (λ T x. J T x r h.log) h.holds; after = noted u h.log y h.left }

  pub broken : (B : List Node → Setting → RuleFault → Type 0) (C : RuleFault → Type 0) (v : Contents) (f : RuleFault) → (B (batch s) (around s) f → C f) → Broken (B (batch t) (around t)) t.scene.kept (held t) v f → Broken C s.scene.kept (held s) v f
  broken B C v f g h = record { breaks = g (back (λ T x. B T x f) h.breaks); log = V ++ h.log; left = more v h.log h.left }

  -- the check of an expression
  pub step_expr : {u : Checker} {p : ℕ} {r : Ty} → Stays t u → Accepted (Expr (batch t) (around t) p) t.scene.kept (held t) (held u) r → Step (λ T x. Expr T x p) s u V r
  step_expr {u = u} {p = p} {r = r} y h = step (λ T x z. Expr T x p z) u r y h

  -- the exit of a `?` behind a check from t on
  pub carried : {X : Type 0} (B : List Node → Setting → RuleFault → Type 0) (P : X → Type 0) (C : RuleFault → Type 0) (v : Contents) (r : Result X RuleFault) (f : RuleFault) → IsErrAnd r (λ y. y ≡ f) → (B (batch s) (around s) f → C f) → Broken (B (batch t) (around t)) t.scene.kept (held t) v f → MatchResult r P (Broken C s.scene.kept (held s) v)
  carried B P C v r f i g h = exit P (Broken C s.scene.kept (held s) v) r f i (broken B C v f g h)

  pub carried_expr : {X : Type 0} {p : ℕ} {v : Contents} {f : RuleFault} (P : X → Type 0) (C : RuleFault → Type 0) (r : Result X RuleFault) → IsErrAnd r (λ y. y ≡ f) →
      (BreaksExpr (batch s) (around s) p f → C f) → Broken (BreaksExpr (batch t) (around t) p) t.scene.kept (held t) v f → MatchResult r P (Broken C s.scene.kept (held s) v)
  carried_expr {p = p} {v = v} {f = f} P C r i g h = carried (λ T x. BreaksExpr T x p) P C v r f i g h

  -- the type of the node at p comes last
  pub told : {J : Ty → Log → Type 0} {u : Checker} (p : ℕ) {r q : Ty} → Stays t u → held u ≡ with_log t.scene.kept (typed p r) (held t) → q ≡ r → J r (V ++ typed p r) → Accepted J s.scene.kept (held s) (held u) q
  told {J = J} {u = u} p {r = r} {q = q} y e i j = record { log = V ++ typed p r; holds = subst (λ z. J z (V ++ typed p r)) (sym i) j; left = more (held u) (typed p r) e }

  -- a rule is broken here: by a fault, by the exit of a `?`, by that of one behind `ok_or`
  pub ended : {C : RuleFault → Type 0} {e f : RuleFault} → e ≡ f → C f → Broken C s.scene.kept (held s) (held t) e
  ended {C = C} i b = record { breaks = subst C (sym i) b; log = V; left = a.left }

  module _ {X : Type 0} (P : X → Type 0) (C : RuleFault → Type 0) (r : Result X RuleFault) where
    pub stopped : (e f : RuleFault) → IsErrAnd r (λ y. y ≡ e) → e ≡ f → C f → MatchResult r P (Broken C s.scene.kept (held s) (held t))
    stopped e f i n b = exit P (Broken C s.scene.kept (held s) (held t)) r e i (ended n b)

    pub lacking : {Y : Type 0} (o : Option Y) (e f g : RuleFault) → IsErrAnd r (λ y. y ≡ e) → ◌≡◌ {A = Result Y RuleFault} (Err e) (ok_or o f) → o ≡ None → f ≡ g → C g →
        MatchResult r P (Broken C s.scene.kept (held s) (held t))
    lacking {Y = Y} o e f g i v n h b =
        let w : ◌≡◌ {A = Result Y RuleFault} (Err e) (Err f) = (rw n at v) in
        let d : e ≡ f = cc in
        stopped e g i (d ∙ h) b
