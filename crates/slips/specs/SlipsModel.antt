-- What a store of chains means.
use Rattle.std.specs.Prelude.{ℕ, vec_items}
use Rattle.store.specs.Model.{Records}
use Rattle.slips.specs.declared.slips.Slips.{Slips}
use Rattle.slips.specs.Chains.{model_of}

abbrev pub slips_model : {r c : ℕ} → Slips r c → Records
slips_model s = model_of (vec_items s.slots) (vec_items s.heads) s.records_left s.cells_left
