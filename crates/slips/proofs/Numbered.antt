-- The number of a new record.
use Rattle.std.specs.Prelude.{◌≡◌, ℕ, ◌+◌, ◌-◌, length}
use Rattle.std.proofs.Common.{ap, ◌∙◌, arith}
use Rattle.std.proofs.lemmas.List.{length_push}
use Rattle.store.specs.Model.{blank, with_record}
use Rattle.slips.specs.SlipsModel.{slips_model}
use Rattle.slips.specs.declared.slips.Slips.{Slips}
use Rattle.slips.specs.Counted.{records_whole}

pub numbered : {m n : ℕ} (s t : Slips m n) (c k : ℕ) → slips_model t ≡ with_record (slips_model s) c k → m - t.records_left ≡ length (slips_model s).records + 1
numbered s t c k e =
    let a = records_whole t in
    let b = ap (λ x. length x.records) e ∙ length_push (slips_model s).records (blank c k) in
    omega (arith, a, b)
