-- The arguments of a call, up to some place.
use Rattle.std.proofs.Common.{◌≡◌, ℕ, ◌+◌, ◌<◌, ◌≤◌, min, [], ◌∷◌, ◌++◌, length, get_or, take, drop, sym, ap, ◌∙◌, subst, arith}
use Rattle.std.proofs.lemmas.List.{append_assoc, append-nil, drop_all, drop_more, get_or-take, length-take}
use Rattle.table.specs.Shape.{node_at, end_of}
use Rattle.table.specs.declared.kinds.Class.TheVariants.{Expression}
use Rattle.values.specs.declared.types.«Type».{«Type» as Ty}
use Rattle.values.specs.declared.types.«Type».TheVariants.{Void}
use Rattle.parts.specs.Parts.{Is, RowOf}
use Rattle.parts.proofs.Rows.{row_next, row_done}
use Rattle.library.specs.declared.definition.Signature.{Signature}
use Rattle.grammar.specs.Faults.{broken}
use Rattle.grammar.specs.declared.fault.Rule.TheVariants.{ExtraArgument, MissingArgument}
use Rattle.grammar.specs.declared.fault.RuleFault.{RuleFault}
use Rattle.typing.specs.declared.checker.Checker.{Checker}
use Rattle.typing.specs.Settings.{Log}
use Rattle.typing.specs.Expressions.{Args, BreaksArgs, Rvalue, BreaksRvalue, types_of}
use Rattle.typing.specs.Expressions.Args.{none, more}
use Rattle.typing.specs.Expressions.BreaksArgs.{extra, missing, here, later}
use Rattle.typing.specs.Checking.{batch, around}
use Rattle.typing.proofs.Steps.{After, Step}

-- the types that the call goes over are those of the signature
module _ (g : Signature) (m : ℕ) where
  pub as_many : m ≡ min g.count 8 → length g.types ≡ 8 → length (take m g.types) ≡ length (types_of g)
  as_many e l =
      let a = length-take m g.types in
      let b = length-take g.count g.types in
      omega (arith, a, b, e, l)

  pub same_type : (i : ℕ) → i < length (take m g.types) → get_or (take m g.types) i Void ≡ get_or g.types i Void
  same_type i h =
      let a = length-take m g.types in
      get_or-take m g.types i Void (omega (arith, a, h))

-- the call at c has its arguments from first to e, for the parameters of g
module _ (s : Checker) (c e : ℕ) (g : Signature) (first : ℕ) where
  -- those before q are checked, against the first i types of g
  pub record Passed (v : Checker) (i q : ℕ) : Type 0 where
    pub row : RowOf (batch s) Expression q e
    pub low : first ≤ q
    pub few : i ≤ length (types_of g)
    pub log : Log
    pub after : After s v log
    pub good : (W : Log) → Args (batch s) (around s) e (drop i (types_of g)) q W → Args (batch s) (around s) e (types_of g) first (log ++ W)
    pub bad : (f : RuleFault) → BreaksArgs (batch s) (around s) c e (drop i (types_of g)) q f → BreaksArgs (batch s) (around s) c e (types_of g) first f

  next_type : (i : ℕ) → i < length (types_of g) → drop i (types_of g) ≡ get_or g.types i Void ∷ drop (i + 1) (types_of g)
  next_type i h =
      let l = length-take g.count g.types in
      drop_more (types_of g) i Void h ∙ ap (λ t. t ∷ drop (i + 1) (types_of g)) (get_or-take g.count g.types i Void (omega arith))

  module _ {v : Checker} {i q : ℕ} (p : Passed v i q) where
    pub passed_below : (at : ℕ) → at ≡ q → at < e → Is (batch s) Expression at × ((node_at (batch s) at).size + first ≤ e)
    passed_below at o h =
        let k = row_next (batch s) Expression e _ q p.row.1 (omega (arith, o, h)) in
        rw o (k.here, omega (arith, k.stays, p.low))

    pub passed_more : (u : Checker) (t : Ty) (at next : ℕ) → at ≡ q → at < e → i < length (types_of g) → t ≡ get_or g.types i Void → next ≡ end_of (batch s) at →
        Step (λ T x z. Rvalue T x t at) s u p.log t → Passed u (i + 1) next
    passed_more u t at next o h l w n d =
        let b : q < e = omega (arith, o, h) in
        let k = row_next (batch s) Expression e _ q p.row.1 b in
        let a = next_type i l in
        let r : Rvalue (batch s) (around s) (get_or g.types i Void) q d.log =
        subst (λ z. Rvalue (batch s) (around s) z q d.log) w (subst (λ z. Rvalue (batch s) (around s) t z d.log) o d.holds) in
        let m : next ≡ end_of (batch s) q = n ∙ ap (end_of (batch s)) o in
        subst (Passed u (i + 1)) (sym m) (record {
          row = (k.rest, k.row);
          low = omega (arith, k.rises, p.low);
          few = omega arith;
          log = p.log ++ d.log;
          after = d.after;
          good = λ V z. subst (Args (batch s) (around s) e (types_of g) first) (sym (append_assoc p.log d.log V)) (p.good (d.log ++ V) (subst (λ ts. Args (batch s) (around s) e ts q (d.log ++ V)) (sym a) (more b r z)));
          bad = λ f z. p.bad f (subst (λ ts. BreaksArgs (batch s) (around s) c e ts q f) (sym a) (later b r z));
        })

    -- the next argument breaks a rule
    pub bad_here : (t : Ty) (at : ℕ) (f : RuleFault) → at ≡ q → at < e → i < length (types_of g) → t ≡ get_or g.types i Void →
        BreaksRvalue (batch s) (around s) t at f → BreaksArgs (batch s) (around s) c e (types_of g) first f
    bad_here t at f o h l w b =
        let r : BreaksRvalue (batch s) (around s) (get_or g.types i Void) q f =
        subst (λ z. BreaksRvalue (batch s) (around s) z q f) w (subst (λ z. BreaksRvalue (batch s) (around s) t z f) o b) in
        p.bad f (subst (λ ts. BreaksArgs (batch s) (around s) c e ts q f) (sym (next_type i l)) (here (omega (arith, o, h)) r))

    pub bad_extra : (at : ℕ) → at ≡ q → at < e → length (types_of g) ≤ i → BreaksArgs (batch s) (around s) c e (types_of g) first (broken ExtraArgument at)
    bad_extra at o h l =
        let b : BreaksArgs (batch s) (around s) c e [] q (broken ExtraArgument q) = extra (omega (arith, o, h)) in
        rw o (p.bad _ (subst (λ ts. BreaksArgs (batch s) (around s) c e ts q (broken ExtraArgument q)) (sym (drop_all i (types_of g) l)) b))

    at_end : e ≤ q → q ≡ e
    at_end h = (row_done (batch s) Expression e _ q p.row.1 h).0

    pub bad_missing : e ≤ q → i < length (types_of g) → BreaksArgs (batch s) (around s) c e (types_of g) first (broken MissingArgument c)
    bad_missing h l =
        let b : BreaksArgs (batch s) (around s) c e (get_or g.types i Void ∷ drop (i + 1) (types_of g)) q (broken MissingArgument c) = (rw (at_end h) missing) in
        p.bad _ (subst (λ ts. BreaksArgs (batch s) (around s) c e ts q (broken MissingArgument c)) (sym (next_type i l)) b)

    pub good_all : e ≤ q → length (types_of g) ≤ i → Args (batch s) (around s) e (types_of g) first p.log
    good_all h l =
        let a : Args (batch s) (around s) e [] q [] = (rw (at_end h) none) in
        let b = p.good [] (subst (λ ts. Args (batch s) (around s) e ts q []) (sym (drop_all i (types_of g) l)) a) in
        subst (Args (batch s) (around s) e (types_of g) first) (append-nil p.log) b
