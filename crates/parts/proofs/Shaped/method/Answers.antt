use Rattle.std.proofs.Common.{refl, ◌∙◌, rules, arith}
use Rattle.table.specs.Shape.{node_at}
use Rattle.table.specs.View.{named}
use Rattle.table.specs.declared.view.View.TheVariants.{DeclMethod}
use Rattle.table.specs.declared.kinds.Class.TheVariants.{OneMethod}
use Rattle.parts.proofs.Known.{kind_is, seen, children_are}
use Rattle.parts.proofs.Shaped.method.Goals as goal

pub unreachable-requires : goal.unreachable-requires
unreachable-requires c =
    let T = c.args.self.nodes.now in
    let p = c.args.p in
    let k = kind_is OneMethod 5 (node_at T p) refl refl c.requires.class.admitted in
    c.in_default.not-DeclMethod _ _ _ _ (c.view_of.ensures.value ∙ seen T p 5 k)

pub returns : goal.returns
returns c =
    let T = c.args.self.nodes.now in
    let p = c.args.p in
    let k = kind_is OneMethod 5 (node_at T p) refl refl c.requires.class.admitted in
    let s = c.in-DeclMethod.ensures.children (λ e. omega (arith, k, e)) in
    let i = children_are T _ _ (named (DeclMethod _ _ _ _)) (c.args.self.formed.laid p c.requires.class.within).within s in
    record {
      view = search rules;
      result = i.0;
      name = i.1.0;
      params = i.1.1.0;
      body = i.1.1.1.0;
    }
