-- The number that a word writes in decimal digits.
use Rattle.std.specs.Prelude.{◌≡◌, ◌<◌, ◌≤◌, ℕ, ◌+◌, ◌-◌, ◌*◌, ◌^◌, Bool, cond, ◌&&◌, List, [], ◌∷◌, length, Option, Some, None, Ok, Err, Result, nat_le, nat_lt, MatchBool, MatchResult}
use Rattle.std.specs.Str.{all_ascii_digits}
use Rattle.job.specs.declared.wrong.Wrong.{Wrong}
use Rattle.job.specs.declared.wrong.Wrong.TheVariants.{NotANumber, NumberTooLarge}

-- a number is written by one digit or more, '0' to '9', and by nothing else
abbrev pub plain : List ℕ → Bool
plain w = nat_lt 0 (length w) && all_ascii_digits w

-- the number that is written by the digits of n and these behind them
abbrev pub number_after : ℕ → List ℕ → ℕ
number_after n [] = n
number_after n (b ∷ bs) = number_after (10 * n + (b - 48)) bs

-- what a word says where a number up to `most` is wanted
abbrev pub decimal_of : List ℕ → ℕ → Result ℕ Wrong
decimal_of w most = cond (plain w) (cond (nat_le (number_after 0 w) most) (Ok (number_after 0 w)) (Err NumberTooLarge)) (Err NotANumber)

-- what becomes of a word where its digits are read as `gives` says: what is not read is too large
abbrev pub Reads : {T E : Type 0} → (List ℕ → Result T E → Type 0) → List ℕ → Result T Wrong → Type 0
Reads {E = E} gives w r =
    MatchBool (plain w) ((read : Result _ E) × gives w read × MatchResult read (λ n. r ≡ Ok n) (λ e. r ≡ Err NumberTooLarge)) (r ≡ Err NotANumber)

-- how digits are read where their number is made to fit a type as `gives` says; one of more than 64 bits is not read, with no error of the type
abbrev pub Fits : {T E : Type 0} → (ℕ → Result T E → Type 0) → List ℕ → Result T (Option E) → Type 0
Fits gives w (Ok n) = (number_after 0 w < 2 ^ 64) × gives (number_after 0 w) (Ok n)
Fits gives w (Err (Some e)) = (number_after 0 w < 2 ^ 64) × gives (number_after 0 w) (Err e)
Fits gives w (Err None) = 2 ^ 64 ≤ number_after 0 w
