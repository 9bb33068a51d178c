-- It is a lemma.
use Rattle.barrier_lowering.proofs.SupportedSides.{all_supported}
use Rattle.barrier_lowering.proofs.laws.lowered_is_supported.Goals as goal

pub returns : goal.returns
returns c = all_supported
