-- What is answered to a command, and what it does to the nodes that are written down.
use Rattle.std.specs.Prelude.{◌≡◌, ℕ, List, [], ◌∷◌, ◌++◌, Some, None, Ok, Err, Option, Result, MatchResult}
use Rattle.table.specs.Shape.{Formed, Refused}
use Rattle.table.specs.declared.kinds.Node.{Node}
use Rattle.table.specs.declared.shape.ShapeFault.{ShapeFault}
use Rattle.job.specs.Kept.{Keeps}
use Rattle.job.specs.declared.answer.Answer.{Answer}
use Rattle.job.specs.declared.answer.Answer.TheVariants.{Shape as ShapeIs, Line}
use Rattle.job.specs.declared.command.Command.{Command}
use Rattle.job.specs.declared.command.Command.TheVariants.{Node as AddNode, Shape}
use Rattle.job.specs.declared.wrong.Wrong.{Wrong}

-- a batch holds the first 1,025 of the nodes that were written down
abbrev pub Holds : List Node → List Node → Type 0
Holds ns written = Keeps 1025 ns written

-- the check of the shape of these nodes answers r
abbrev pub Judged : List Node → Result (Unit {0}) ShapeFault → Type 0
Judged ns r = MatchResult r (λ _. Formed ns) (λ f. Refused ns f)

-- the answer to `shape`
pub data Answered (written : List Node) : Option Answer → Type 0 where
  judged : (r : Result (Unit {0}) ShapeFault) → Judged written r → Answered written (Some (ShapeIs r))

-- the answer to a command, where these nodes are written down
abbrev pub Replies : Command → List Node → Option Answer → Type 0
Replies (AddNode n) written a = a ≡ None
Replies Shape written a = Answered written a

-- the nodes that are written down after a command
abbrev pub after : Command → List Node → List Node
after (AddNode n) written = written ++ n ∷ []
after Shape written = []

-- the same for what the line with the number l says
abbrev pub LineReplies : Result (Option Command) Wrong → ℕ → List Node → Option Answer → Type 0
LineReplies (Ok (Some c)) l written a = Replies c written a
LineReplies (Ok None) l written a = a ≡ None
LineReplies (Err w) l written a = a ≡ Some (Line l w)

abbrev pub line_after : Result (Option Command) Wrong → List Node → List Node
line_after (Ok (Some c)) written = after c written
line_after (Ok None) written = written
line_after (Err w) written = written
