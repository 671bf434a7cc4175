-- What the front of a batch and of a line, as far as it is kept, tells of the whole.
use Rattle.std.proofs.Common.{◌≡◌, ℕ, ◌+◌, ◌-◌, ◌^◌, ◌<◌, min, List, [], length, take, Ok, Err, Option, Result, ap, ◌∙◌, subst, ⊎_elim, arith}
use Rattle.std.proofs.lemmas.List.{take_all, length-take-le}
use Rattle.std.proofs.lemmas.Bool.{cases_lt, lt-ltb}
use Rattle.table.specs.Shape.{Formed, Refused, many, first}
use Rattle.table.specs.declared.kinds.Node.{Node}
use Rattle.table.specs.declared.shape.ShapeFault.{ShapeFault}
use Rattle.job.specs.Commands.{line_of, Carries}
use Rattle.job.specs.declared.command.Command.{Command}
use Rattle.job.specs.declared.wrong.Wrong.{Wrong}
use Rattle.job.specs.Play.{Judged, Holds, LineReplies, line_after}
use Rattle.job.specs.Sessions.{Ended}
use Rattle.job.specs.declared.answer.Answer.{Answer}
use Rattle.job.specs.declared.session.Session.{Session}

refused_past : (ns : List Node) (f : ShapeFault) → 1024 < length (take 1025 ns) → 1024 < length ns → Refused (take 1025 ns) f → Refused ns f
refused_past ns f h k (many n) = many (λ few. omega (arith, few.most))
refused_past ns f h k (first few p lt before bad) = absurd (omega (arith, few.most))

-- what the front tells of a shape is so of the whole
pub judged_whole : (ns : List Node) (r : Result (Unit {0}) ShapeFault) → Judged (take 1025 ns) r → Judged ns r
judged_whole ns (Ok x) h =
    ⊎_elim
    (λ short. subst Formed (take_all 1025 ns (omega arith)) h)
    (λ long. absurd (omega (arith, h.few.most, length-take-le 1025 ns long)))
    (cases_lt (length ns) 1025)
judged_whole ns (Err f) h =
    ⊎_elim
    (λ short. subst (λ l. Refused l f) (take_all 1025 ns (omega arith)) h)
    (λ long. refused_past ns f (omega (arith, length-take-le 1025 ns long)) (omega arith) h)
    (cases_lt (length ns) 1025)

-- the front of a line says what the whole line says
says_whole : (text : List ℕ) → line_of (take 65537 text) ≡ line_of text
says_whole text =
    ⊎_elim
    (λ short. ap line_of (take_all 65537 text (omega arith)))
    (λ long.
    let front = lt-ltb 65536 (length (take 65537 text)) (omega (arith, length-take-le 65537 text long)) in
    let whole = lt-ltb 65536 (length text) (omega arith) in
    cc)
    (cases_lt (length text) 65537)

-- a session after its line said `says`
pub ended : (s t : Session) (a : Option Answer) (says : Result (Option Command) Wrong) →
    t.ended ≡ min (s.ended + 1) (2 ^ 64 - 1) → t.line ≡ [] → says ≡ line_of s.line →
    ((written : List Node) → Holds s.batch written → LineReplies says t.ended written a × Holds t.batch (line_after says written)) →
    Ended s a t
ended s t a says counted empty said played =
    let whole : (text : List ℕ) → Carries s.line text → says ≡ line_of text = λ text h. said ∙ ap line_of h ∙ says_whole text in
    record {
      counted = counted;
      replies = λ text written h. subst (λ r. LineReplies r t.ended written a) (whole text h.carries) (played written h.holds).0;
      stands = λ text written h. record {
        carries = empty;
        holds = subst (λ r. Holds t.batch (line_after r written)) (whole text h.carries) (played written h.holds).1;
      };
    }
