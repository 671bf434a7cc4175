use Rattle.values.proofs.Division.{division}
use Rattle.values.proofs.Edges.{cases_hold}
use Rattle.values.proofs.Nans.{nan_compares}
use Rattle.values.proofs.Ranges.{in_range, as_float}
use Rattle.values.proofs.cases.number_cases.Goals as goal

pub returns : goal.returns
returns c = record { laws = (division, in_range, as_float, nan_compares); cases = cases_hold }
