-- By the lemma.
use Rattle.routines.proofs.Reading.{stores_same}
use Rattle.routines.proofs.laws.stores_go_by_reads.Goals as goal

pub returns : goal.returns
returns c = stores_same
