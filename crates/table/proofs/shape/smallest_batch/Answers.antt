use Rattle.table.proofs.Smallest.{smallest_batch}
use Rattle.table.proofs.shape.smallest_batch.Goals as goal

pub returns : goal.returns
returns c = smallest_batch
