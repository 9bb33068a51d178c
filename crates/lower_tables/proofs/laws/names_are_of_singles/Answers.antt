-- It is a lemma.
use Rattle.lower_tables.proofs.TextsBothWays.{of_singles}
use Rattle.lower_tables.proofs.laws.names_are_of_singles.Goals as goal

pub returns : goal.returns
returns c = of_singles
