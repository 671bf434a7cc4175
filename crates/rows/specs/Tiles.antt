-- Records that lie one behind the other.
use Rattle.std.specs.Prelude.{ℕ, ◌+◌, Bool, ◌&&◌, List, [], ◌∷◌, ◌==◌}
use Rattle.store.specs.declared.head.Head.{Head}

-- the cells of the first record begin at a, those of each next one behind those before, and the last end at e
abbrev pub tiles : List (Head ℕ) → ℕ → ℕ → Bool
tiles [] a e = a == e
tiles (h ∷ hs) a e = h.first == a && tiles hs (a + h.count) e
