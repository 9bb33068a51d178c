-- It is a lemma.
use Rattle.lower_tables.proofs.SyncStages.{has_stages}
use Rattle.lower_tables.proofs.laws.syncs_have_stages.Goals as goal

pub returns : goal.returns
returns c = has_stages
