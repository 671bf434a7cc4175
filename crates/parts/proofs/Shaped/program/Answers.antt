use Rattle.std.proofs.Common.{◌∙◌, rules, arith}
use Rattle.table.specs.View.{named}
use Rattle.table.specs.declared.view.View.TheVariants.{Program}
use Rattle.parts.proofs.Known.{seen, children_are}
use Rattle.parts.proofs.Shaped.program.Goals as goal

pub unreachable-requires : goal.unreachable-requires
unreachable-requires c = c.in_default.not-Program _ _ (c.view_of.ensures.value ∙ seen c.args.self.nodes.now 0 1 c.args.self.formed.root.program)

pub returns : goal.returns
returns c =
    let T = c.args.self.nodes.now in
    let f = c.args.self.formed in
    let s = c.in-Program.ensures.children (λ e. omega (arith, f.root.program, e)) in
    let i = children_are T _ _ (named (Program _ _)) (f.laid 0 f.few.least).within s in
    record { view = search rules; classes = i.0; main = i.1.0 }
