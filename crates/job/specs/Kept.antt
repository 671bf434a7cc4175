-- What a list of bounded length keeps.
use Rattle.std.specs.Prelude.{◌≡◌, ℕ, List, [], ◌∷◌, ◌++◌, take}

-- the first `most` of xs with x behind them
abbrev pub kept : {X : Type 0} → ℕ → List X → X → List X
kept most xs x = take most (xs ++ x ∷ [])

-- `front` is kept of all that was added, where there is room for `most`
abbrev pub Keeps : {X : Type 0} → ℕ → List X → List X → Type 0
Keeps most front added = front ≡ take most added
