-- Which kinds are instructions and which are expressions, by one computed test over the views of all kinds.
use Rattle.std.proofs.Common.{◌≡◌, ℕ, ◌+◌, ◌-◌, ◌≤◌, Bool, true, false, List, ◌++◌, get_or, replicate, sym, refl, ap, ◌∙◌, arith}
use borrow.Author.Tests.{clash}
use Rattle.std.proofs.lemmas.List.{get_or-append_right, get_or-replicate, length-replicate}
use Rattle.table.specs.Shape.{node_at}
use Rattle.table.specs.View.{view, heads, head_of}
use Rattle.table.specs.declared.kinds.Node.{Node}
use Rattle.table.specs.declared.view.Expression.{Expression}
use Rattle.table.specs.declared.view.Instruction.{Instruction}
use Rattle.table.specs.declared.view.Instruction.TheVariants.{Print, Println, IfThenElse, NoOperation, Return, While, Evaluate}
use Rattle.table.specs.declared.view.View.{View}
use Rattle.table.specs.declared.view.View.TheVariants.{Program, List as Elements, DeclClass, DeclField, DeclMethod, DeclParam, DeclVar, Initialization, NoInitialization, MethodBody, Main, EmptyMain, Execute, Nothing}
use Rattle.std.proofs.Math.ListN.{get_or-map}
use Rattle.parts.proofs.Known.{seen}

abbrev evaluates : Instruction → Bool
evaluates (Print a) = false
evaluates (Println a) = false
evaluates (IfThenElse a b c) = false
evaluates NoOperation = false
evaluates (Return a) = false
evaluates (While a b) = false
evaluates (Evaluate e) = true

-- f of an instruction, and false of every other view
abbrev executes : (Instruction → Bool) → View → Bool
executes f (Program a b) = false
executes f (Elements a e) = false
executes f (DeclClass a b c d) = false
executes f (DeclField v a b c) = false
executes f (DeclMethod a b c d) = false
executes f (DeclParam a b) = false
executes f (DeclVar a b c) = false
executes f (Initialization a) = false
executes f NoInitialization = false
executes f (MethodBody a b) = false
executes f (Main a b) = false
executes f EmptyMain = false
executes f (Execute i) = f i
executes f Nothing = false

behind : (m n k : ℕ) → m ≤ k → k + 1 ≤ m + n → get_or (replicate m false ++ replicate n true) k false ≡ true
behind m n k h l = get_or-append_right (replicate m false) (replicate n true) m k false (length-replicate m false) h ∙ get_or-replicate n (k - m) true false (omega arith)

instruction_kind : (k w a b c d e : ℕ) → 13 ≤ k → k ≤ 48 → executes (λ i. true) (head_of k w a b c d e) ≡ true
instruction_kind k w a b c d e h l = sym (get_or-map (executes (λ i. true)) (heads w a b c d e) k Nothing) ∙ behind 13 36 k h (omega arith)

expression_kind : (k w a b c d e : ℕ) → 19 ≤ k → k ≤ 48 → executes evaluates (head_of k w a b c d e) ≡ true
expression_kind k w a b c d e h l = sym (get_or-map (executes evaluates) (heads w a b c d e) k Nothing) ∙ behind 19 30 k h (omega arith)

pub is_instruction : (T : List Node) (p : ℕ) → 13 ≤ (node_at T p).kind → (node_at T p).kind ≤ 48 → executes (λ i. true) (view T p) ≡ true
is_instruction T p h l = ap (executes (λ i. true)) (seen T p _ refl) ∙ instruction_kind (node_at T p).kind _ _ _ _ _ _ h l

pub is_expression : (T : List Node) (p : ℕ) → 19 ≤ (node_at T p).kind → (node_at T p).kind ≤ 48 → executes evaluates (view T p) ≡ true
is_expression T p h l = ap (executes evaluates) (seen T p _ refl) ∙ expression_kind (node_at T p).kind _ _ _ _ _ _ h l

pub executed : (v : View) (f : Instruction → Bool) → executes f v ≡ true → (i : Instruction) × (v ≡ Execute i) × (f i ≡ true)
executed (Program a b) f e = absurd (clash e)
executed (Elements a b) f e = absurd (clash e)
executed (DeclClass a b c d) f e = absurd (clash e)
executed (DeclField v a b c) f e = absurd (clash e)
executed (DeclMethod a b c d) f e = absurd (clash e)
executed (DeclParam a b) f e = absurd (clash e)
executed (DeclVar a b c) f e = absurd (clash e)
executed (Initialization a) f e = absurd (clash e)
executed NoInitialization f e = absurd (clash e)
executed (MethodBody a b) f e = absurd (clash e)
executed (Main a b) f e = absurd (clash e)
executed EmptyMain f e = absurd (clash e)
executed (Execute i) f e = (i, refl, e)
executed Nothing f e = absurd (clash e)

pub evaluated : (i : Instruction) → evaluates i ≡ true → (x : Expression) × (i ≡ Evaluate x)
evaluated (Print a) e = absurd (clash e)
evaluated (Println a) e = absurd (clash e)
evaluated (IfThenElse a b c) e = absurd (clash e)
evaluated NoOperation e = absurd (clash e)
evaluated (Return a) e = absurd (clash e)
evaluated (While a b) e = absurd (clash e)
evaluated (Evaluate x) e = (x, refl)
