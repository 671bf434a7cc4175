-- A job as it is played: what a session stands for, and what a byte and the end of a line do.
use Rattle.std.specs.Prelude.{◌≡◌, ℕ, ◌+◌, ◌-◌, ◌^◌, min, List, [], ◌∷◌, ◌++◌, Option}
use Rattle.table.specs.declared.kinds.Node.{Node}
use Rattle.job.specs.Commands.{Carries, line_of}
use Rattle.job.specs.Play.{Holds, LineReplies, line_after}
use Rattle.job.specs.declared.answer.Answer.{Answer}
use Rattle.job.specs.declared.session.Session.{Session}

-- what is kept of the line that s reads
abbrev pub front_of : Session → List ℕ
front_of s = s.line

-- s has read `text` of its line, and the nodes of its batch are `written`
pub record Stands (s : Session) (text : List ℕ) (written : List Node) : Type 0 where
  pub carries : Carries (front_of s) text
  pub holds : Holds s.batch written

-- t is s with a byte more in its line
pub record Longer (s : Session) (b : ℕ) (t : Session) : Type 0 where
  pub same_count : t.ended ≡ s.ended
  pub stands : (text : List ℕ) (written : List Node) → Stands s text written → Stands t (text ++ b ∷ []) written

-- t is s after its line was played, with the answer a
pub record Ended (s : Session) (a : Option Answer) (t : Session) : Type 0 where
  pub counted : t.ended ≡ min (s.ended + 1) (2 ^ 64 - 1)
  pub replies : (text : List ℕ) (written : List Node) → Stands s text written → LineReplies (line_of text) t.ended written a
  pub stands : (text : List ℕ) (written : List Node) → Stands s text written → Stands t [] (line_after (line_of text) written)
