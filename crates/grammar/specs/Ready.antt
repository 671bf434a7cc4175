-- When the declarations of a class can be checked.
use Rattle.std.specs.Prelude.{◌≡◌, ℕ, ◌+◌, ◌<◌, ◌≤◌, List, length, Some}
use Rattle.table.specs.Shape.{Formed}
use Rattle.table.specs.declared.kinds.Node.{Node}
use Rattle.table.specs.declared.kinds.Class.TheVariants.{OneClass, OneMethod, OneParam}
use Rattle.parts.specs.Parts.{Is, Row}
use Rattle.library.specs.declared.member.Member.{Member}
use Rattle.library.specs.Contents.{Contents}

-- the batch has its shape, its nodes are kept behind n others, and there is a class with the number of the super-class
pub record Ready (T : List Node) (w : Contents) (n j : ℕ) : Type 0 where
  pub formed : Formed T
  pub parent : j < length w.classes
  pub kept : n + length T ≤ length w.nodes

-- at most eight parameters follow one another from q to e
abbrev pub FewParams : List Node → ℕ → ℕ → Type 0
FewParams T q e = (n : ℕ) × (n ≤ 8) × Row T OneParam n q e

-- a method is declared in the batch, which is kept behind n nodes
abbrev pub DeclaredAt : List Node → ℕ → Member → Type 0
DeclaredAt T n m = (p : ℕ) × (m.node ≡ Some (n + p)) × Is T OneMethod p

-- the class k, which is not Object, is to get its members from the place p on; the members so far have nodes before p
pub record Begins (T : List Node) (w : Contents) (n k p : ℕ) : Type 0 where
  pub positive : 0 < k
  pub known : k < length w.classes
  pub kept : n + length T ≤ length w.nodes
  pub room : length w.members ≤ n + p + 1

-- the classes from q to e have the numbers from k on, and none is Object
pub record Numbered (T : List Node) (w : Contents) (n k q e : ℕ) : Type 0 where
  pub count : ℕ
  pub row : Row T OneClass count q e
  pub positive : 0 < k
  pub known : k + count ≤ length w.classes
  pub kept : n + length T ≤ length w.nodes
  pub room : length w.members ≤ n + q + 1
