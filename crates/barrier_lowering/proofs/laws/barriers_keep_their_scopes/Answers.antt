-- It is a lemma.
use Rattle.barrier_lowering.proofs.BarrierScopes.{keep_scopes}
use Rattle.barrier_lowering.proofs.laws.barriers_keep_their_scopes.Goals as goal

pub returns : goal.returns
returns c = keep_scopes
