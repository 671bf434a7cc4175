-- The exit of a `?`, which carries a fault on inside another.
use Rattle.std.proofs.Common.{◌≡◌, ◌∙◌, ℕ, IsErrAnd, Ok, Err, Some, Result, sym, ap, subst, arith, MatchResult}
use Rattle.grammar.specs.declared.fault.Pass.{Pass}
use Rattle.grammar.specs.declared.fault.InClass.{InClass}
use Rattle.grammar.specs.declared.fault.MemberFault.{MemberFault}
use Rattle.grammar.specs.declared.fault.BatchFault.{BatchFault}
use Rattle.grammar.specs.Faults.{in_class}

pub exit : {T E : Type 0} (P : T → Type 0) (Q : E → Type 0) (r : Result T E) (e : E) → IsErrAnd r (λ y. y ≡ e) → Q e → MatchResult r P Q
exit P Q (Ok x) e h q = absurd h
exit P Q (Err y) e h q = subst Q (sym h) q

-- what a call gave, where `map_err` took its fault to one of R
module _ {T E F : Type 0} (P : T → Type 0) (Q : E → Type 0) (R : E → F → Type 0) where
  pub mapped : (r : Result T E) (s : Result T F) → MatchResult r (λ x. s ≡ Ok x) (λ e. IsErrAnd s (R e)) → MatchResult r P Q → MatchResult s P (λ f. (e : E) × Q e × R e f)
  mapped (Ok x) (Ok y) h q = let i : x ≡ y = cc in subst P i q
  mapped (Ok x) (Err f) h q = absurd (let z : ◌≡◌ {A = ℕ} 0 1 = cc in omega arith)
  mapped (Err e) (Ok y) h q = absurd h
  mapped (Err e) (Err f) h q = (e, q, h)

-- a fault with the class around it, as `?` carries it on
pub around_class : (B : BatchFault → Type 0) (y : InClass × MemberFault) (n : Pass) (a x : ℕ) (m : MemberFault) → y ≡ (record { pass = n; class = a }, m) → a ≡ x → B (in_class n x m) → B (record { pass = y.0.pass; class = Some y.0.class; fault = y.1 })
around_class B y n a x m e d b =
    let g : InClass × MemberFault → BatchFault = λ z. record { pass = z.0.pass; class = Some z.0.class; fault = z.1 } in
    subst B (ap (λ k. in_class n k m) (sym d) ∙ ap g (sym e)) b
