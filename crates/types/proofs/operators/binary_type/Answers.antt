use Rattle.std.proofs.Common.{◌≡◌, rules}
use Rattle.values.specs.declared.types.«Type».TheVariants.{Boolean, Int}
use Rattle.types.proofs.Typing.{given_if, group, computing, remainder, joining, equating, ordering, by_group, binary_only}
use Rattle.types.proofs.operators.binary_type.Goals as goal

pub returns-in-Plus : goal.returns-in-Plus
returns-in-Plus c =
    let g : group c.args.op ≡ computing = search rules in
    record { result = by_group _ computing _ _ g _ c.arith_type.ensures; only = binary_only _ _ _ }

pub returns-in-Modulo : goal.returns-in-Modulo
returns-in-Modulo c =
    let g : group c.args.op ≡ remainder = search rules in
    record { result = by_group _ remainder _ _ g _ (given_if _ Int _ c.both.ensures _ c.then_some.ensures); only = binary_only _ _ _ }

pub returns-in-And : goal.returns-in-And
returns-in-And c =
    let g : group c.args.op ≡ joining = search rules in
    record { result = by_group _ joining _ _ g _ (given_if _ Boolean _ c.both-in-And.ensures _ c.then_some-in-And.ensures); only = binary_only _ _ _ }

pub returns-in-Equals : goal.returns-in-Equals
returns-in-Equals c =
    let g : group c.args.op ≡ equating = search rules in
    record { result = by_group _ equating _ _ g _ (given_if _ Boolean _ c.equatable.ensures _ c.then_some-in-Equals.ensures); only = binary_only _ _ _ }

pub returns-in-Lower : goal.returns-in-Lower
returns-in-Lower c =
    let g : group c.args.op ≡ ordering = search rules in
    record { result = by_group _ ordering _ _ g _ (given_if _ Boolean _ c.numbers.ensures _ c.then_some-in-Lower.ensures); only = binary_only _ _ _ }
