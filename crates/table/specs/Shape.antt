-- The shape of a batch: what each position of its table has to be.
use Rattle.std.specs.Prelude.{◌≡◌, ℕ, zero, suc, ◌+◌, ◌<◌, ◌≤◌, true, cond, Option, Some, None, List, [], ◌∷◌, length, replicate, ◌≢◌, nat_lt, slice_index_or}
use Rattle.table.specs.Kinds.{admits, fits, row_of, list_row_of}
use Rattle.table.specs.declared.kinds.Node.{Node}
use Rattle.table.specs.declared.kinds.Class.{Class}
use Rattle.table.specs.declared.shape.ShapeFault.{ShapeFault}
use Rattle.table.specs.declared.shape.ShapeFault.TheVariants.{Length, Layout, Word, Depth}

-- the node at a position; no kind has the number 0
abbrev pub node_at : List Node → ℕ → Node
node_at ns p = slice_index_or ns p (record { kind = 0; size = 0; word = 0 })

-- the position behind the part of a node
abbrev pub end_of : List Node → ℕ → ℕ
end_of ns p = p + (node_at ns p).size

-- a node of the class c stands at q, and its part, which is not empty, ends by e
pub record Child (ns : List Node) (e : ℕ) (c : Class) (q : ℕ) : Type 0 where
  pub admitted : admits c (node_at ns q) ≡ true
  pub filled : 0 < (node_at ns q).size
  pub within : end_of ns q ≤ e

-- children of these classes follow one another from q on, and the last ends at e
abbrev pub Follow : List Node → ℕ → List Class → ℕ → Type 0
Follow ns e [] q = q ≡ e
Follow ns e (c ∷ cs) q = Child ns e c q × Follow ns e cs (end_of ns q)

-- so do some number of children of the class c, at most m
abbrev pub Elements : List Node → ℕ → Class → ℕ → ℕ → Type 0
Elements ns e c m q = (k : ℕ) × (k ≤ m) × Follow ns e (replicate k c) q

-- the classes of a kind's children, for all kinds but List
abbrev pub children_of : ℕ → List Class
children_of k = (row_of k).children

-- the elements that a List with the word w may hold
pub record Listing (ns : List Node) (w q e : ℕ) : Type 0 where
  pub lowest : 1 ≤ w
  pub highest : w ≤ 7
  pub elements : Elements ns e (list_row_of w).element (list_row_of w).most q

-- the children that a node of that kind and word may have, from q to e
abbrev pub Children : List Node → ℕ → ℕ → ℕ → ℕ → Type 0
Children ns k w q e = (k ≡ 2 → Listing ns w q e) × ((k ≢ 2) → Follow ns e (children_of k) q)

-- p has one of the 48 kinds, its part lies in the table, and the children that its kind allows fill it
pub record Laid (ns : List Node) (p : ℕ) : Type 0 where
  pub lowest : 1 ≤ (node_at ns p).kind
  pub highest : (node_at ns p).kind ≤ 48
  pub within : end_of ns p ≤ length ns
  pub children : Children ns (node_at ns p).kind (node_at ns p).word (p + 1) (end_of ns p)

-- a Program at position 0, whose part is the whole table
pub record Rooted (ns : List Node) : Type 0 where
  pub program : (node_at ns 0).kind ≡ 1
  pub whole : (node_at ns 0).size ≡ length ns

pub record Placed (ns : List Node) (p : ℕ) : Type 0 where
  pub root : p ≡ 0 → Rooted ns
  pub laid : Laid ns p

-- the word of a node is one that its kind allows
abbrev pub Worded : Node → Type 0
Worded n = fits (row_of n.kind).word n.word ≡ true

-- how many of the first n parts, of which f gives the ends, end behind j
abbrev pub tally : (ℕ → ℕ) → ℕ → ℕ → ℕ
tally f zero j = 0
tally f (suc n) j = tally f n j + cond (nat_lt j (f n)) 1 0

-- the number of parts that contain p, its own too
abbrev pub depth : List Node → ℕ → ℕ
depth ns p = tally (end_of ns) (suc p) p

pub record Sound (ns : List Node) (p : ℕ) : Type 0 where
  pub placed : Placed ns p
  pub worded : Worded (node_at ns p)
  pub shallow : depth ns p ≤ 64

-- what is wrong with position p, if anything is
pub data Faulty (ns : List Node) (p : ℕ) : ShapeFault → Type 0 where
  layout : (Placed ns p → ⊥) → Faulty ns p (Layout p)
  word : Placed ns p → (Worded (node_at ns p) → ⊥) → Faulty ns p (Word p)
  deep : Placed ns p → Worded (node_at ns p) → 64 < depth ns p → Faulty ns p (Depth p)

pub record Few (ns : List Node) : Type 0 where
  pub least : 1 ≤ length ns
  pub most : length ns ≤ 1024

-- why a table is refused: its length, or its first faulty position
pub data Refused (ns : List Node) : ShapeFault → Type 0 where
  many : (Few ns → ⊥) → Refused ns Length
  first : {f : ShapeFault} → Few ns → (p : ℕ) → p < length ns → ((q : ℕ) → q < p → Sound ns q) → Faulty ns p f → Refused ns f

-- a table that is refused nowhere, and what follows for it: each part is some nodes long and lies in those around it
pub record Formed (ns : List Node) : Type 0 where
  pub few : Few ns
  pub root : Rooted ns
  pub laid : (p : ℕ) → p < length ns → Laid ns p
  pub worded : (p : ℕ) → p < length ns → Worded (node_at ns p)
  pub shallow : (p : ℕ) → p < length ns → depth ns p ≤ 64
  pub filled : (p : ℕ) → p < length ns → 0 < (node_at ns p).size
  pub nests : (p q : ℕ) → p < q → q < end_of ns p → end_of ns q ≤ end_of ns p

-- the number under which a fault is refused
abbrev pub refusal : ShapeFault → ℕ
refusal Length = 1
refusal (Layout p) = 2
refusal (Word p) = 3
refusal (Depth p) = 4

-- the first faulty position, where a fault has one
abbrev pub place_of : ShapeFault → Option ℕ
place_of Length = None
place_of (Layout p) = Some p
place_of (Word p) = Some p
place_of (Depth p) = Some p

-- no table is both formed and refused, and none is refused in two ways
pub record Settled (ns : List Node) : Type 0 where
  pub one_way : (f : ShapeFault) → Formed ns → Refused ns f → ⊥
  pub one_fault : (f g : ShapeFault) → Refused ns f → Refused ns g → f ≡ g
