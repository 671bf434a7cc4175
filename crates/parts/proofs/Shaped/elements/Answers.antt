use Rattle.std.proofs.Common.{◌≡◌, arith, rules}
use Rattle.table.specs.Shape.{node_at, end_of}
use Rattle.table.specs.declared.kinds.Class.TheVariants.{ListOf}
use Rattle.table.proofs.Standing.{view_list}
use Rattle.parts.proofs.Known.{kind_between}
use Rattle.parts.proofs.Lists.{list_holds}
use Rattle.parts.proofs.Shaped.elements.Goals as goal

pub returns : goal.returns
returns c =
    let T = c.args.self.nodes.now in
    let p = c.args.p in
    let b = kind_between (ListOf c.requires.list.0) (node_at T p) c.requires.list.1.admitted in
    let k : (node_at T p).kind ≡ 2 = omega (arith, b.0, b.1) in
    let e : c.end_of.result ≡ end_of T p = search rules in
    record { view = let v = view_list T p k in search rules; first = search rules; end = search rules; holds = rw e (list_holds T p c.args.self.formed) }
