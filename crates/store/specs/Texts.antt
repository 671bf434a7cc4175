-- What an error prints.
use Rattle.std.specs.Prelude.{ℕ, List, codes}
use Rattle.store.specs.declared.made.NotMade.{NotMade}
use Rattle.store.specs.declared.made.NotMade.TheVariants.{Sizes, Memory}

abbrev pub text_of : NotMade → List ℕ
text_of Sizes = codes "no such sizes"
text_of Memory = codes "no memory"
