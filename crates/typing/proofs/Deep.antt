-- What holds from some depth on.
use Rattle.std.proofs.Common.{ℕ, ◌+◌, ◌≤◌, Result, arith}
use Rattle.grammar.proofs.Verdicts.{Single}

pub record Deep (P : ℕ → Type 0) : Type 0 where
  pub from : ℕ
  pub holds : (n : ℕ) → from ≤ n → P n

pub always : {P : ℕ → Type 0} → ((n : ℕ) → P n) → Deep P
always f = record { from = 0; holds = λ n h. f n }

pub with_one : {P R : ℕ → Type 0} → Deep P → ((n : ℕ) → P n → R n) → Deep R
with_one a f = record { from = a.from; holds = λ n h. f n (a.holds n h) }

pub with_two : {P Q R : ℕ → Type 0} → Deep P → Deep Q → ((n : ℕ) → P n → Q n → R n) → Deep R
with_two a b f = record { from = a.from + b.from; holds = λ n h. f n (a.holds n (omega arith)) (b.holds n (omega arith)) }

-- where each depth allows one verdict, so do all together
pub deep_one : {X F : Type 0} (V : ℕ → Result X F → Type 0) → ((n : ℕ) → Single (V n)) → Single (λ r. Deep (λ n. V n r))
deep_one V one r s a b = one _ r s (a.holds (a.from + b.from) (omega arith)) (b.holds (a.from + b.from) (omega arith))
