-- It is a lemma.
use Rattle.barrier_lowering.proofs.ExactChanges.{exact}
use Rattle.barrier_lowering.proofs.laws.changes_are_exact.Goals as goal

pub returns : goal.returns
returns c = exact
