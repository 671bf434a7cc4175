use Rattle.std.proofs.Common.{rules}
use Rattle.library.proofs.Signed.{signature_same}
use Rattle.library.proofs.definition.Signature.equals.Goals as goal

pub returns : goal.returns
returns c = signature_same _ _ _ c.eq.ensures (λ t u. search rules)
