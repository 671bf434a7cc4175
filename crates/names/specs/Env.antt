-- Environments: which definition each symbol has, and how two of them are put together.
use Rattle.std.specs.Prelude.{◌≡◌, ℕ, true, cond, ◌↔◌, List, [], ◌∷◌, ◌++◌, is_some, Some, None, Option, ◌==◌, ◌≢◌}
use Rattle.std.specs.Option.{option_or}
use Rattle.std.specs.List.{ContainsAt, AllByRecursion}

-- a partial function from symbols to definitions
abbrev pub Env : Type 0 → Type 0
Env D = ℕ → Option D

-- a list of named entries as an environment: of the entries with one name, the first counts
abbrev pub lookup : {D : Type 0} → (D → ℕ) → List D → Env D
lookup symbol [] x = None
lookup symbol (d ∷ ds) x = cond (symbol d == x) (Some d) (lookup symbol ds x)

-- the first environment where it is defined, else the second
abbrev pub stacked : {D : Type 0} → Env D → Env D → Env D
stacked e f x = option_or (e x) (f x)

-- no symbol is defined in both
abbrev pub Apart : {D E : Type 0} → Env D → Env E → Type 0
Apart e f = (x : ℕ) → is_some (e x) ≡ true → is_some (f x) ≢ true

-- the first entry of a list whose name an environment defines
abbrev pub first_in : {D E : Type 0} → (D → ℕ) → List D → Env E → Option D
first_in symbol [] e = None
first_in symbol (d ∷ ds) e = cond (is_some (e (symbol d))) (Some d) (first_in symbol ds e)

-- what holds of environments, whatever their entries are and however these are named
pub record Laws (D E : Type 0) : Type 0 where
  -- to stack environments is to put their lists one behind the other
  pub appended : (symbol : D → ℕ) (xs ys : List D) (x : ℕ) → lookup symbol (xs ++ ys) x ≡ stacked (lookup symbol xs) (lookup symbol ys) x
  -- two environments are apart exactly where no entry of the one has a name of the other
  pub apart : (symbol : D → ℕ) (xs : List D) (e : Env E) → Apart (lookup symbol xs) e ↔ (first_in symbol xs e ≡ None)
  -- of environments that are apart, either may stand above the other
  pub either_way : (e f : Env D) (x : ℕ) → Apart e f → stacked e f x ≡ stacked f e x
  -- what is found is an entry with the name that was asked for
  pub found : (symbol : D → ℕ) (xs : List D) (x : ℕ) (d : D) → lookup symbol xs x ≡ Some d → (symbol d ≡ x) × ContainsAt xs d
  -- nothing is found exactly where no entry has the name
  pub absent : (symbol : D → ℕ) (xs : List D) (x : ℕ) → (lookup symbol xs x ≡ None) ↔ AllByRecursion (λ d. symbol d ≢ x) xs
