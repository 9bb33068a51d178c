-- It is a lemma.
use Rattle.lower_tables.proofs.StateSides.{takes_in_pairs}
use Rattle.lower_tables.proofs.laws.states_take_in_pairs.Goals as goal

pub returns : goal.returns
returns c = takes_in_pairs
