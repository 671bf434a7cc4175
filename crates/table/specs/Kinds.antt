-- The 48 kinds of node: their numbers, their children, and the words that they carry.
use Rattle.std.specs.Prelude.{◌≡◌, ℕ, ◌-◌, ◌/◌, ◌%◌, ◌^◌, ◌≤◌, Bool, true, not, ◌&&◌, Result, MatchResult, List, [], ◌∷◌, ◌==◌, nat_le, nat_lt, slice_index_or}
use Rattle.table.specs.declared.kinds.Node.{Node}
use Rattle.table.specs.declared.kinds.Kind.{Kind}
use Rattle.table.specs.declared.kinds.Kind.TheVariants.{Program, List as ListNode, DeclClass, DeclField, DeclMethod, DeclParam, DeclVar, Initialization, NoInitialization, MethodBody, Main, EmptyMain, Print, Println, IfThenElse, NoOperation, Return, While, Assign, Divide, Minus, Modulo, Multiply, Plus, And, Or, Equals, NotEquals, Greater, GreaterOrEquals, Lower, LowerOrEquals, UnaryMinus, Not, ReadInt, ReadFloat, Cast, InstanceOf, MethodCall, New, This, IntLiteral, FloatLiteral, StringLiteral, BooleanLiteral, NullLiteral, Selection, Identifier}
use Rattle.table.specs.declared.kinds.Listed.{Listed}
use Rattle.table.specs.declared.kinds.Listed.TheVariants.{Classes, Fields, Methods, Params, Vars, Instructions, Expressions}
use Rattle.table.specs.declared.kinds.Class.{Class}
use Rattle.table.specs.declared.kinds.Class.TheVariants.{Name, Expression, Instruction, Target, Initializer, Body, MainBlock, OneClass, OneField, OneMethod, OneParam, OneVar, ListOf}
use Rattle.table.specs.declared.kinds.Word.{Word}
use Rattle.table.specs.declared.kinds.Word.TheVariants.{Zero, Symbol, Flag, Int, Float, Text, ListWord}
use Rattle.table.specs.declared.kinds.ListRow.{ListRow}
use Rattle.table.specs.declared.kinds.Unknown.{Unknown}

-- the number of a kind
abbrev pub number_of : Kind → ℕ
number_of Program = 1
number_of ListNode = 2
number_of DeclClass = 3
number_of DeclField = 4
number_of DeclMethod = 5
number_of DeclParam = 6
number_of DeclVar = 7
number_of Initialization = 8
number_of NoInitialization = 9
number_of MethodBody = 10
number_of Main = 11
number_of EmptyMain = 12
number_of Print = 13
number_of Println = 14
number_of IfThenElse = 15
number_of NoOperation = 16
number_of Return = 17
number_of While = 18
number_of Assign = 19
number_of Divide = 20
number_of Minus = 21
number_of Modulo = 22
number_of Multiply = 23
number_of Plus = 24
number_of And = 25
number_of Or = 26
number_of Equals = 27
number_of NotEquals = 28
number_of Greater = 29
number_of GreaterOrEquals = 30
number_of Lower = 31
number_of LowerOrEquals = 32
number_of UnaryMinus = 33
number_of Not = 34
number_of ReadInt = 35
number_of ReadFloat = 36
number_of Cast = 37
number_of InstanceOf = 38
number_of MethodCall = 39
number_of New = 40
number_of This = 41
number_of IntLiteral = 42
number_of FloatLiteral = 43
number_of StringLiteral = 44
number_of BooleanLiteral = 45
number_of NullLiteral = 46
number_of Selection = 47
number_of Identifier = 48

-- what is made of a number: the kind that has it, or an error with a number that no kind has
abbrev pub KindNumbered : ℕ → Result Kind (Unknown ℕ) → Type 0
KindNumbered n r = MatchResult r (λ k. number_of k ≡ n) (λ e. (e.0 ≡ n) × ¬ ((1 ≤ n) × (n ≤ 48)))

-- the word of a list
abbrev pub word_of : Listed → ℕ
word_of Classes = 1
word_of Fields = 2
word_of Methods = 3
word_of Params = 4
word_of Vars = 5
word_of Instructions = 6
word_of Expressions = 7

-- what is made of a word: the list that has it, or an error with a word that no list has
abbrev pub ListWorded : ℕ → Result Listed (Unknown ℕ) → Type 0
ListWorded w r = MatchResult r (λ l. word_of l ≡ w) (λ e. (e.0 ≡ w) × ¬ ((1 ≤ w) × (w ≤ 7)))

abbrev pub between : ℕ → ℕ → ℕ → Bool
between low high n = nat_le low n && nat_le n high

-- the first and the last kind of a class
abbrev pub range : Class → Kind × Kind
range Name = (Identifier, Identifier)
range Expression = (Assign, Identifier)
range Instruction = (Print, Identifier)
range Target = (Selection, Identifier)
range Initializer = (Initialization, NoInitialization)
range Body = (MethodBody, MethodBody)
range MainBlock = (Main, EmptyMain)
range OneClass = (DeclClass, DeclClass)
range OneField = (DeclField, DeclField)
range OneMethod = (DeclMethod, DeclMethod)
range OneParam = (DeclParam, DeclParam)
range OneVar = (DeclVar, DeclVar)
range (ListOf l) = (ListNode, ListNode)

-- whether a class has a node of those kinds with the word w: of lists, it has those of one word
abbrev pub carries : Class → ℕ → Bool
carries Name w = true
carries Expression w = true
carries Instruction w = true
carries Target w = true
carries Initializer w = true
carries Body w = true
carries MainBlock w = true
carries OneClass w = true
carries OneField w = true
carries OneMethod w = true
carries OneParam w = true
carries OneVar w = true
carries (ListOf l) w = w == word_of l

-- which nodes a class has
abbrev pub admits : Class → Node → Bool
admits c n = between (number_of (range c).0) (number_of (range c).1) n.kind && carries c n.word

-- which words a rule allows; the bits of a float are finite unless its exponent is all ones
abbrev pub fits : Word → ℕ → Bool
fits Zero w = w == 0
fits Symbol w = between 1 65535 w
fits Flag w = nat_le w 1
fits Int w = nat_lt w (2 ^ 31)
fits Float w = not ((w / 2 ^ 52) % 2048 == 2047)
fits Text w = nat_lt w 65536
fits ListWord w = between 1 7 w

-- a kind, the classes of its children in order, and the word that it carries
pub record KindRow : Type 0 where
  pub kind : Kind
  pub children : List Class
  pub word : Word

abbrev pub row : Kind → List Class → Word → KindRow
row k cs w = record { kind = k; children = cs; word = w }

abbrev pub list : Listed → Class
list l = ListOf l

-- the kinds in the order of their numbers, 1 to 48
abbrev pub table : List KindRow
table =
    row Program (list Classes ∷ MainBlock ∷ []) Zero ∷
    row ListNode [] ListWord ∷
    row DeclClass (Name ∷ Name ∷ list Fields ∷ list Methods ∷ []) Zero ∷
    row DeclField (Name ∷ Name ∷ Initializer ∷ []) Flag ∷
    row DeclMethod (Name ∷ Name ∷ list Params ∷ Body ∷ []) Zero ∷
    row DeclParam (Name ∷ Name ∷ []) Zero ∷
    row DeclVar (Name ∷ Name ∷ Initializer ∷ []) Zero ∷
    row Initialization (Expression ∷ []) Zero ∷
    row NoInitialization [] Zero ∷
    row MethodBody (list Vars ∷ list Instructions ∷ []) Zero ∷
    row Main (list Vars ∷ list Instructions ∷ []) Zero ∷
    row EmptyMain [] Zero ∷
    row Print (list Expressions ∷ []) Zero ∷
    row Println (list Expressions ∷ []) Zero ∷
    row IfThenElse (Expression ∷ list Instructions ∷ list Instructions ∷ []) Zero ∷
    row NoOperation [] Zero ∷
    row Return (Expression ∷ []) Zero ∷
    row While (Expression ∷ list Instructions ∷ []) Zero ∷
    row Assign (Target ∷ Expression ∷ []) Zero ∷
    row Divide (Expression ∷ Expression ∷ []) Zero ∷
    row Minus (Expression ∷ Expression ∷ []) Zero ∷
    row Modulo (Expression ∷ Expression ∷ []) Zero ∷
    row Multiply (Expression ∷ Expression ∷ []) Zero ∷
    row Plus (Expression ∷ Expression ∷ []) Zero ∷
    row And (Expression ∷ Expression ∷ []) Zero ∷
    row Or (Expression ∷ Expression ∷ []) Zero ∷
    row Equals (Expression ∷ Expression ∷ []) Zero ∷
    row NotEquals (Expression ∷ Expression ∷ []) Zero ∷
    row Greater (Expression ∷ Expression ∷ []) Zero ∷
    row GreaterOrEquals (Expression ∷ Expression ∷ []) Zero ∷
    row Lower (Expression ∷ Expression ∷ []) Zero ∷
    row LowerOrEquals (Expression ∷ Expression ∷ []) Zero ∷
    row UnaryMinus (Expression ∷ []) Zero ∷
    row Not (Expression ∷ []) Zero ∷
    row ReadInt [] Zero ∷
    row ReadFloat [] Zero ∷
    row Cast (Name ∷ Expression ∷ []) Zero ∷
    row InstanceOf (Expression ∷ Name ∷ []) Zero ∷
    row MethodCall (Expression ∷ Name ∷ list Expressions ∷ []) Zero ∷
    row New (Name ∷ []) Zero ∷
    row This [] Zero ∷
    row IntLiteral [] Int ∷
    row FloatLiteral [] Float ∷
    row StringLiteral [] Text ∷
    row BooleanLiteral [] Flag ∷
    row NullLiteral [] Zero ∷
    row Selection (Expression ∷ Name ∷ []) Zero ∷
    row Identifier [] Symbol ∷
    []

-- the lists in the order of their words, 1 to 7: what they hold, and how many at most
abbrev pub lists : List ListRow
lists =
    record { list = Classes; element = OneClass; most = 31 } ∷
    record { list = Fields; element = OneField; most = 16 } ∷
    record { list = Methods; element = OneMethod; most = 16 } ∷
    record { list = Params; element = OneParam; most = 8 } ∷
    record { list = Vars; element = OneVar; most = 24 } ∷
    record { list = Instructions; element = Instruction; most = 64 } ∷
    record { list = Expressions; element = Expression; most = 16 } ∷
    []

abbrev pub row_of : ℕ → KindRow
row_of k = slice_index_or table (k - 1) (row Program [] Zero)

abbrev pub list_row_of : ℕ → ListRow
list_row_of w = slice_index_or lists (w - 1) (record { list = Classes; element = OneClass; most = 0 })
