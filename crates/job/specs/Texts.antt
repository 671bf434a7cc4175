-- The texts of the answers.
use Rattle.std.specs.Prelude.{ℕ, List, ◌++◌, Some, None, Ok, Err, codes, decimal, Option}
use Rattle.table.specs.Shape.{refusal, place_of}
use Rattle.job.specs.declared.answer.Answer.{Answer}
use Rattle.job.specs.declared.answer.Answer.TheVariants.{Shape, Line}
use Rattle.job.specs.Faults.{text_of}

abbrev pub refused_text : ℕ → Option ℕ → List ℕ
refused_text n None = codes "shape: refused " ++ decimal n
refused_text n (Some p) = codes "shape: refused " ++ (decimal n ++ (codes " at " ++ decimal p))

abbrev pub answer_text : Answer → List ℕ
answer_text (Shape (Ok _)) = codes "shape: ok"
answer_text (Shape (Err f)) = refused_text (refusal f) (place_of f)
answer_text (Line l w) = codes "line " ++ (decimal l ++ (codes ": " ++ text_of w))
