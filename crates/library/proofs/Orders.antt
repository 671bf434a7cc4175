-- The order of classes: with one class more, and of the first n alone.
use Rattle.std.proofs.Common.{ℕ, ◌<◌, List, [], ◌∷◌, ◌++◌, length, Some, arith}
use Rattle.std.proofs.lemmas.Grind.{common_steps}
use Rattle.std.proofs.lemmas.List.{length_push}
use Rattle.types.specs.declared.class.Class.{Class}
use Rattle.types.specs.Classes.{Ordered}

module _ (cs : List Class) (x j : ℕ) (o : Ordered cs) (h : j < length cs) where
  abbrev longer : List Class
  longer = cs ++ record { name = x; number = length cs; parent = Some j } ∷ []

  pub ordered_push : Ordered longer
  ordered_push =
      record {
        some = simp length_push (omega arith);
        object = grind (arith, common_steps, o.object, o.some);
        numbered = λ k l. grind (arith, common_steps, o.numbered k);
        lower = λ k i e. grind (arith, common_steps, o.lower k i);
        rooted = λ k l e. grind (arith, common_steps, o.rooted k);
      }
