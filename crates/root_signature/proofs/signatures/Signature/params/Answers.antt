-- A signature is valid by its invariant.
use Rattle.std.proofs.Common.{subst}
use Rattle.root_signature.specs.SignatureView.{IsSignature}
use Rattle.root_signature.proofs.signatures.Signature.params.Goals as goal

pub returns-clause-valid : goal.returns-clause-valid
returns-clause-valid c = subst IsSignature c.self.view_is c.self.invariant
