-- It is a lemma.
use Rattle.lower_tables.proofs.TextsBothWays.{both_ways}
use Rattle.lower_tables.proofs.laws.names_go_both_ways.Goals as goal

pub returns : goal.returns
returns c = both_ways
