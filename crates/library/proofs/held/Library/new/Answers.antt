use Rattle.std.proofs.Common.{◌≡◌, [], ◌∷◌, ◌++◌, None, vec_items, ap, ◌∙◌}
use Rattle.values.specs.declared.types.«Type».TheVariants.{Boolean}
use Rattle.library.specs.declared.definition.Nature.TheVariants.{Method}
use Rattle.library.specs.Contents.{object, equals, predefined}
use Rattle.library.proofs.Kept.{same_contents}
use Rattle.library.proofs.held.Library.new.Goals as goal

pub returns : goal.returns
returns c =
    let a : vec_items c.push_reserved.new.self ≡ object ∷ [] = c.push_reserved.ensures.items ∙ ap (λ xs. xs ++ object ∷ []) c.in_ok-classes.ensures.items in
    let b : vec_items c.push_reserved-2.new.self ≡ record { first = 0; end = 1; cells = 0 } ∷ [] = c.push_reserved-2.ensures.items ∙ ap (λ xs. xs ++ record { first = 0; end = 1; cells = 0 } ∷ []) c.in_ok-layouts.ensures.items in
    let s = c.with.ensures [] c.empty.ensures in
    let d : vec_items c.push_reserved-3.new.self ≡ equals ∷ [] = c.push_reserved-3.ensures.items ∙ ap (λ xs. xs ++ record { name = 6; definition = record { nature = Method c.with.result; of = Boolean }; node = None } ∷ []) c.in_ok-members.ensures.items ∙ ap (λ x. record { name = 6; definition = record { nature = Method x; of = Boolean }; node = None } ∷ []) s in
    let e = c.in_ok-nodes.ensures.items in
    let f = c.in_ok-attributes.ensures.items in
    same_contents _ predefined a b d e f
