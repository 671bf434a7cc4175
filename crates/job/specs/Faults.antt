-- The texts for what is wrong with a line.
use Rattle.std.specs.Prelude.{ℕ, List, codes}
use Rattle.job.specs.declared.wrong.Wrong.{Wrong}
use Rattle.job.specs.declared.wrong.Wrong.TheVariants.{UnknownCommand, MissingWord, WordTooMany, NotANumber, NumberTooLarge, LineTooLong}

abbrev pub text_of : Wrong → List ℕ
text_of UnknownCommand = codes "unknown command"
text_of MissingWord = codes "missing word"
text_of WordTooMany = codes "word too many"
text_of NotANumber = codes "not a number"
text_of NumberTooLarge = codes "number too large"
text_of LineTooLong = codes "line too long"
