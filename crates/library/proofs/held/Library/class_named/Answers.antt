use Rattle.std.proofs.Common.{◌≡◌, Some, sym, ap, ◌∙◌}
use Rattle.values.specs.declared.types.«Type».TheVariants.{Class as ClassType}
use Rattle.library.specs.Contents.{contents}
use Rattle.library.specs.Environments.{type_env}
use Rattle.library.proofs.Kept.{ordered}
use Rattle.library.proofs.Types.{type_known}
use Rattle.library.proofs.held.Library.class_named.Goals as goal

pub returns-in-Class : goal.returns-in-Class
returns-in-Class c =
    let l = c.args.self.now in
    let e : type_env (contents l).classes c.args.name ≡ Some (ClassType c.in-Class.number) = sym c.type_named.ensures ∙ c.in_ok-number.was ∙ ap Some c.in-Class.is in
    (e, type_known (contents l).classes c.args.name (ordered l) _ e)
