use Rattle.std.proofs.Common.{◌≡◌, is_some, ◌∙◌, rules, tests}
use Rattle.std.proofs.lemmas.Iterator.{YieldsList-from_slice}
use Rattle.std.proofs.lemmas.Iterator.Search.{find_from_yields_List}
use Rattle.names.specs.Env.{lookup, first_in}
use Rattle.names.proofs.Unions.{apart_by, first_in_find}
use Rattle.names.proofs.first_shared.Goals as goal

pub returns : goal.returns
returns g c =
    let s = g.D.Named.symbol in
    let e = lookup g.E.Named.symbol c.args.taken.now in
    let v : c.copied.result ≡ first_in s c.args.entries.now e =
    c.copied.ensures ∙
    find_from_yields_List (λ d. is_some (e (s d))) _ _ c.find.result c.find.ensures.ran (YieldsList-from_slice c.args.entries.now cc) (λ x b q k. search (rules, tests)) ∙
    first_in_find s c.args.entries.now e
    in
    record { value = v; union = apart_by s c.args.entries.now e _ v }
