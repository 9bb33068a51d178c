-- It is a lemma.
use Rattle.lower_tables.proofs.SyncStages.{takes_in_part}
use Rattle.lower_tables.proofs.laws.stages_take_in_parts.Goals as goal

pub returns : goal.returns
returns c = takes_in_part
