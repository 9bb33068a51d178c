-- What is not refused is sound.
use Rattle.root_signature.proofs.Sound.{sound}
use Rattle.root_signature.proofs.laws.signatures_are_sound.Goals as goal

pub returns : goal.returns
returns c = λ signature good. sound signature.version signature.params good
