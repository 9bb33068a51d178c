-- It is a lemma.
use Rattle.lower_tables.proofs.FirstRows.{first_counts}
use Rattle.lower_tables.proofs.laws.the_first_row_counts.Goals as goal

pub returns : goal.returns
returns g c = first_counts _
