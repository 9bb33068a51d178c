-- By the lemma.
use Rattle.routines.proofs.Writing.{stores_written}
use Rattle.routines.proofs.laws.stores_are_writes.Goals as goal

pub returns : goal.returns
returns c = stores_written
