-- The command that the words of a line say.
use Rattle.std.specs.Prelude.{ℕ, cond, List, [], ◌∷◌, length, Some, None, Ok, Err, Option, codes, Result, nat_lt}
use Rattle.std.specs.Str.{bytes_eq}
use Rattle.table.specs.declared.kinds.Node.{Node}
use Rattle.job.specs.declared.command.Command.{Command}
use Rattle.job.specs.declared.command.Command.TheVariants.{Node as AddNode, Shape}
use Rattle.job.specs.declared.wrong.Wrong.{Wrong}
use Rattle.job.specs.declared.wrong.Wrong.TheVariants.{UnknownCommand, MissingWord, WordTooMany, LineTooLong}
use Rattle.job.specs.Numbers.{decimal_of}
use Rattle.job.specs.Kept.{Keeps}
use Rattle.job.specs.Words.{before_comment, words_of}

-- what f makes of a value, unless something was wrong before
abbrev pub and_then : {T U : Type 0} → Result T Wrong → (T → Result U Wrong) → Result U Wrong
and_then (Ok x) f = f x
and_then (Err e) f = Err e

-- a command that is complete takes no further word
abbrev pub end_of : List (List ℕ) → Result (Unit {0}) Wrong
end_of [] = Ok tt
end_of (w ∷ ws) = Err WordTooMany

-- a node by its kind, its size and its word
abbrev pub node_by : List ℕ → List ℕ → List ℕ → Result Node Wrong
node_by k s w =
    and_then (decimal_of k 255) (λ kind. and_then (decimal_of s 65535) (λ size. and_then (decimal_of w 18446744073709551615) (λ word. Ok (record { kind = kind; size = size; word = word }))))

-- what stands behind `node`
abbrev pub node_of : List (List ℕ) → Result Node Wrong
node_of [] = Err MissingWord
node_of (k ∷ []) = Err MissingWord
node_of (k ∷ s ∷ []) = Err MissingWord
node_of (k ∷ s ∷ w ∷ []) = node_by k s w
node_of (k ∷ s ∷ w ∷ x ∷ more) = Err WordTooMany

-- by its first word, the name, and the words behind it
abbrev pub named : List ℕ → List (List ℕ) → Result Command Wrong
named name ws =
    cond (bytes_eq name (codes "node")) (and_then (node_of ws) (λ n. Ok (AddNode n)))
    (cond (bytes_eq name (codes "shape")) (and_then (end_of ws) (λ _. Ok Shape))
    (Err UnknownCommand))

-- a line without words says nothing
abbrev pub command_of : List (List ℕ) → Result (Option Command) Wrong
command_of [] = Ok None
command_of (name ∷ ws) = and_then (named name ws) (λ c. Ok (Some c))

-- what a line says: 65,536 bytes are the most that it may have
abbrev pub line_of : List ℕ → Result (Option Command) Wrong
line_of text = cond (nat_lt 65536 (length text)) (Err LineTooLong) (command_of (words_of (before_comment text)))

-- what is kept of a line: its front, by which it tells whether it is too long
abbrev pub Carries : List ℕ → List ℕ → Type 0
Carries front text = Keeps 65537 front text
