use Rattle.std.proofs.Common.{rules, tests}
use Rattle.rows.proofs.Found.{class_mapped}
use Rattle.rows.proofs.rows.RowsStore.class_of.Goals as goal

pub returns : goal.returns
returns g c = class_mapped c.args.self.now c.args.record _ _ _ _ c.deref.ensures.value c.entry_of.ensures c.map.ensures.cases (λ h k q. search (rules, tests))
