-- Classes in the order of their numbers.
use Rattle.std.specs.Prelude.{◌≡◌, ℕ, ◌<◌, List, length, Some, None, slice_index_or}
use Rattle.types.specs.declared.class.Class.{Class}

-- the class with a number; past the list one without a super-class
abbrev pub class_at : List Class → ℕ → Class
class_at cs k = slice_index_or cs k (record { name = 0; number = 0; parent = None })

-- the class k has the super-class j
abbrev pub Extends : List Class → ℕ → ℕ → Type 0
Extends cs k j = (class_at cs k).parent ≡ Some j

-- each class stands at its number and behind its super-class; Object comes first, and it alone has none
pub record Ordered (cs : List Class) : Type 0 where
  pub some : 0 < length cs
  pub object : class_at cs 0 ≡ record { name = 5; number = 0; parent = None }
  pub numbered : (k : ℕ) → k < length cs → (class_at cs k).number ≡ k
  pub lower : (k j : ℕ) → Extends cs k j → j < k
  pub rooted : (k : ℕ) → k < length cs → (class_at cs k).parent ≡ None → k ≡ 0
