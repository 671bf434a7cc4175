-- What the questions answer.
use Rattle.std.specs.Prelude.{ℕ, Some, None, Ok, Err, Option, Result}
use Rattle.names.specs.Env.{lookup}
use Rattle.types.specs.declared.class.Class.{Class}
use Rattle.library.specs.declared.definition.Definition.{Definition}
use Rattle.library.specs.declared.member.Member.{Member}
use Rattle.library.specs.declared.questions.Unanswered.{Unanswered}
use Rattle.library.specs.declared.questions.Unanswered.TheVariants.{NoClass, NoMember}
use Rattle.library.specs.Contents.{Contents}
use Rattle.library.specs.Environments.{environment}

-- the number under which a question is refused
abbrev pub refusal : Unanswered → ℕ
refusal NoClass = 8
refusal NoMember = 10

abbrev pub class_found : Option Class → Result Class Unanswered
class_found (Some c) = Ok c
class_found None = Err NoClass

-- the class of that name
abbrev pub class_answer : Contents → ℕ → Result Class Unanswered
class_answer w x = class_found (lookup (λ c. c.name) w.classes x)

abbrev pub member_found : Option Member → Result Definition Unanswered
member_found (Some m) = Ok m.definition
member_found None = Err NoMember

abbrev pub member_of : Contents → Result Class Unanswered → ℕ → Result Definition Unanswered
member_of w (Ok c) y = member_found (environment w c.number y)
member_of w (Err u) y = Err u

-- what the name y stands for in the class of the name x
abbrev pub member_answer : Contents → ℕ → ℕ → Result Definition Unanswered
member_answer w x y = member_of w (class_answer w x) y
