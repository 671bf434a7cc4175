-- The words of a line.
use Rattle.std.specs.Prelude.{◌≡◌, ℕ, ◌<◌, cond, not, List, [], ◌∷◌, ◌++◌, length, take, ◌==◌, ◌≢◌, slice_index}
use Rattle.std.specs.List.{prefix_len, AllByRecursion}

-- the bytes before the first '#'
abbrev pub before_comment : List ℕ → List ℕ
before_comment s = take (prefix_len (λ b. not (b == 35)) s) s

-- the word that ends here, if there is one
abbrev pub ended : List ℕ → List (List ℕ)
ended [] = []
ended (b ∷ w) = (b ∷ w) ∷ []

-- the words of a text in whose front the bytes w of a word stand: a space ends the word
abbrev pub words_after : List ℕ → List ℕ → List (List ℕ)
words_after w [] = ended w
words_after w (b ∷ s) = cond (b == 32) (ended w ++ words_after [] s) (words_after (w ++ b ∷ []) s)

-- the words of a text, in order: see `Cut`
abbrev pub words_of : List ℕ → List (List ℕ)
words_of s = words_after [] s

-- s is spaces, the word w, and the rest, which is empty or begins with a space
pub record First (s w rest : List ℕ) : Type 0 where
  pub gap : List ℕ
  pub parts : s ≡ gap ++ (w ++ rest)
  pub blank : AllByRecursion (λ b. b ≡ 32) gap
  pub some : 0 < length w
  pub solid : AllByRecursion (λ b. b ≢ 32) w
  pub ends : 0 < length rest → slice_index rest 0 ≡ 32

-- ws are the longest runs of bytes of s that are no spaces, in order
abbrev pub Cut : List ℕ → List (List ℕ) → Type 0
Cut s [] = AllByRecursion (λ b. b ≡ 32) s
Cut s (w ∷ ws) = (rest : List ℕ) × First s w rest × Cut rest ws
