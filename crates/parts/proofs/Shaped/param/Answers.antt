use Rattle.std.proofs.Common.{refl, ◌∙◌, rules, arith}
use Rattle.table.specs.Shape.{node_at}
use Rattle.table.specs.View.{named}
use Rattle.table.specs.declared.view.View.TheVariants.{DeclParam}
use Rattle.table.specs.declared.kinds.Class.TheVariants.{OneParam}
use Rattle.parts.proofs.Known.{kind_is, seen, children_are}
use Rattle.parts.proofs.Shaped.param.Goals as goal

pub unreachable-requires : goal.unreachable-requires
unreachable-requires c =
    let T = c.args.self.nodes.now in
    let p = c.args.p in
    let k = kind_is OneParam 6 (node_at T p) refl refl c.requires.class.admitted in
    c.in_default.not-DeclParam _ _ (c.view_of.ensures.value ∙ seen T p 6 k)

pub returns : goal.returns
returns c =
    let T = c.args.self.nodes.now in
    let p = c.args.p in
    let k = kind_is OneParam 6 (node_at T p) refl refl c.requires.class.admitted in
    let s = c.in-DeclParam.ensures.children (λ e. omega (arith, k, e)) in
    let i = children_are T _ _ (named (DeclParam _ _)) (c.args.self.formed.laid p c.requires.class.within).within s in
    record {
      view = search rules;
      of = i.0;
      name = i.1.0;
    }
