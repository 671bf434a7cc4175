use Rattle.std.proofs.Common.{◌≡◌, ℕ, [], ◌∷◌, ◌++◌, length, Some, vec_items, vec_len, sym, ap, ◌∙◌, subst, arith, rules}
use Rattle.types.specs.Classes.{Ordered}
use Rattle.library.specs.Members.{layout_at, Placed}
use Rattle.library.proofs.Kept.{placed_push}
use Rattle.library.proofs.Orders.{ordered_push}
use Rattle.library.proofs.held.Library.add_class.Goals as goal

pub invariant_of-self-clause-ordered : goal.invariant_of-self-clause-ordered
invariant_of-self-clause-ordered c =
    let l = c.args.self.now in
    let n : c.len-number.result ≡ length (vec_items l.classes) = search rules in
    let e : vec_items c.push_reserved.new.self ≡ vec_items l.classes ++ record { name = c.args.name; number = length (vec_items l.classes); parent = Some c.args.parent } ∷ [] = c.push_reserved.ensures.items ∙ ap (λ k. vec_items l.classes ++ record { name = c.args.name; number = k; parent = Some c.args.parent } ∷ []) n in
    subst Ordered (sym e) (ordered_push (vec_items l.classes) c.args.name c.args.parent l.ordered c.requires.parent)

pub invariant_of-self-clause-placed : goal.invariant_of-self-clause-placed
invariant_of-self-clause-placed c =
    let l = c.args.self.now in
    let q = placed_push (vec_items l.layouts) _ (vec_len l.members) (vec_len l.members) l.placed (omega arith) (omega arith, omega (arith, c.len-end.ensures), omega arith) in
    subst (λ ls. (k : ℕ) → Placed (layout_at ls k) (vec_len l.members)) (sym c.push_reserved-2.ensures.items) q
