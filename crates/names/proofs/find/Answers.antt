use Rattle.std.proofs.Common.{◌==◌, arith, rules, tests}
use Rattle.std.proofs.lemmas.Iterator.{YieldsList-from_slice}
use Rattle.std.proofs.lemmas.Iterator.Search.{find_from_yields_List}
use Rattle.names.proofs.Stacking.{lookup_find}
use Rattle.names.proofs.find.Goals as goal

pub returns : goal.returns
returns g c =
    let searched = find_from_yields_List (λ d. g.D.Named.symbol d == c.args.name) _ _ c.find.result c.find.ensures.ran (YieldsList-from_slice c.args.entries.now cc) (λ x b q k. search (rules, tests)) in
    let first = lookup_find g.D.Named.symbol c.args.entries.now c.args.name in
    grind (arith, searched, first)
