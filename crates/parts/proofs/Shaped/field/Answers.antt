use Rattle.std.proofs.Common.{false, refl, ◌∙◌, rules, arith}
use Rattle.table.specs.Shape.{node_at}
use Rattle.table.specs.View.{named}
use Rattle.table.specs.declared.view.View.TheVariants.{DeclField}
use Rattle.table.specs.declared.kinds.Class.TheVariants.{OneField}
use Rattle.parts.proofs.Known.{kind_is, seen, children_are}
use Rattle.parts.proofs.Shaped.field.Goals as goal

pub unreachable-requires : goal.unreachable-requires
unreachable-requires c =
    let T = c.args.self.nodes.now in
    let p = c.args.p in
    let k = kind_is OneField 4 (node_at T p) refl refl c.requires.class.admitted in
    c.in_default.not-DeclField _ _ _ _ (c.view_of.ensures.value ∙ seen T p 4 k)

pub returns : goal.returns
returns c =
    let T = c.args.self.nodes.now in
    let p = c.args.p in
    let k = kind_is OneField 4 (node_at T p) refl refl c.requires.class.admitted in
    let s = c.in-DeclField.ensures.children (λ e. omega (arith, k, e)) in
    let i = children_are T _ _ (named (DeclField false _ _ _)) (c.args.self.formed.laid p c.requires.class.within).within s in
    record {
      view = search rules;
      of = i.0;
      name = i.1.0;
      init = i.1.1.0;
    }
