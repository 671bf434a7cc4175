use Rattle.std.proofs.Common.{◌≡◌, ◌+◌, sym, ap, ◌∙◌, subst, rules}
use Rattle.table.specs.Kinds.{number_of}
use Rattle.table.specs.Shape.{node_at, end_of}
use Rattle.table.specs.View.{view, moved, named, Stand}
use Rattle.table.proofs.Moving.{view_from, view_moved}
use Rattle.table.proofs.Standing.{view_stands, view_list}
use Rattle.table.proofs.view.view_of.Goals as goal

pub returns : goal.returns
returns c =
    let ns = c.args.nodes.now in
    let k : number_of c.unwrap-kind.result ≡ (node_at ns c.args.p).kind = search rules in
    let v : c.head.result ≡ view ns c.args.p = c.head.ensures ∙ view_from _ _ _ _ _ _ _ k c.end_of-end.ensures c.past-b.ensures c.past-c.ensures c.past-d.ensures in
    record {
      value = v;
      children = λ n. subst (λ x. Stand ns (end_of ns c.args.p) (c.args.p + 1) (named x)) (sym v) (view_stands ns c.args.p c.requires.laid n);
      elements = λ e. v ∙ view_list ns c.args.p e;
      moves = λ P S. view_moved P ns S c.args.p c.requires.within c.requires.laid.within ∙ ap (moved _) (sym v);
    }
