use Rattle.library.proofs.Signed.{signature_more}
use Rattle.library.proofs.definition.Signature.with.Goals as goal

pub returns : goal.returns
returns c = λ ts e. signature_more c.args.self ts c.args.of c.requires e
