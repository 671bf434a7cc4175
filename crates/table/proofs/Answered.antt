-- A test that answered yes or no.
use Rattle.std.proofs.Common.{ℕ, ◌<◌, ◌≤◌, true, false, Decides, refl, inl, inr}
use borrow.Author.Tests.{clash}
use Rattle.std.proofs.lemmas.Bool.{cases_lt}

pub said_yes : {P : Type 0} → P → Decides true P
said_yes p = (λ t. p, λ q. refl)

pub said_no : {P : Type 0} → (P → ⊥) → Decides false P
said_no n = (λ t. absurd (clash t), λ p. absurd (n p))

pub said_more : (m n : ℕ) → Decides false (m ≤ n) → n < m
said_more m n d = elim (cases_lt n m) [ inl l ↦ l | inr g ↦ absurd (clash (d.1 g)) ]
