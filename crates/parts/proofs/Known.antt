-- What the class of a node says of its kind, and what its kind says of its view.
use Rattle.std.proofs.Common.{◌≡◌, ℕ, ◌+◌, ◌≤◌, true, eqb, leb, List, [], ◌∷◌, length, ap, arith, eqb-true, leb-true}
use Rattle.std.proofs.lemmas.Bool.{and_parts}
use Rattle.table.specs.Kinds.{admits, range, number_of, carries, between, word_of}
use Rattle.table.specs.Shape.{Child, node_at, end_of}
use Rattle.table.specs.View.{view, past, head_of, Stand}
use Rattle.table.specs.declared.kinds.Node.{Node}
use Rattle.table.specs.declared.kinds.Class.{Class}
use Rattle.table.specs.declared.kinds.Class.TheVariants.{ListOf}
use Rattle.table.specs.declared.kinds.Listed.{Listed}
use Rattle.parts.specs.Parts.{Is}

-- a class has the kinds of its range
pub kind_between : (c : Class) (n : Node) → admits c n ≡ true → (number_of (range c).0 ≤ n.kind) × (n.kind ≤ number_of (range c).1)
kind_between c n h =
    let low = number_of (range c).0 in
    let high = number_of (range c).1 in
    let t = and_parts (between low high n.kind) (carries c n.word) h in
    let b = and_parts (leb low n.kind) (leb n.kind high) t.0 in
    (leb-true _ _ b.0, leb-true _ _ b.1)

-- and a class of one kind has that
pub kind_is : (c : Class) (k : ℕ) (n : Node) → number_of (range c).0 ≡ k → number_of (range c).1 ≡ k → admits c n ≡ true → n.kind ≡ k
kind_is c k n a b h = let t = kind_between c n h in omega (arith, a, b, t.0, t.1)

-- a list of a class has the word of that class
pub list_word : (l : Listed) (n : Node) → admits (ListOf l) n ≡ true → n.word ≡ word_of l
list_word l n h = eqb-true _ _ (and_parts (between 2 2 n.kind) (eqb n.word (word_of l)) h).1

-- the view of a node whose kind is known
pub seen : (T : List Node) (p k : ℕ) → (node_at T p).kind ≡ k →
    view T p ≡ head_of k (node_at T p).word (p + 1) (past T (end_of T p) (p + 1)) (past T (end_of T p) (past T (end_of T p) (p + 1))) (past T (end_of T p) (past T (end_of T p) (past T (end_of T p) (p + 1)))) (end_of T p)
unfolding view
seen T p k e = ap (λ m. head_of m (node_at T p).word (p + 1) (past T (end_of T p) (p + 1)) (past T (end_of T p) (past T (end_of T p) (p + 1))) (past T (end_of T p) (past T (end_of T p) (past T (end_of T p) (p + 1)))) (end_of T p)) e

-- a child of a part that lies in the table
pub is_child : (T : List Node) (e q : ℕ) (c : Class) → e ≤ length T → Child T e c q → Is T c q
is_child T e q c l h = record { within = let a = h.filled in let b = h.within in omega arith; admitted = h.admitted }

-- nodes of these classes stand at these places
abbrev pub Are : List Node → List (Class × ℕ) → Type 0
Are T [] = Unit {0}
Are T ((c, a) ∷ xs) = Is T c a × Are T xs

-- so do the children of a part that lies in the table
pub children_are : (T : List Node) (e q : ℕ) (xs : List (Class × ℕ)) → e ≤ length T → Stand T e q xs → Are T xs
children_are T e q [] l s = tt
children_are T e q ((c, a) ∷ xs) l s = (is_child T e a c l s.1, children_are T e (end_of T a) xs l s.2)
