-- A lemma for each of the two accesses.
use Rattle.dx_flags.proofs.AtomFacts.{common_nowhere, none_everywhere}
use Rattle.dx_flags.proofs.laws.layouts_and_common.Goals as goal

pub returns : goal.returns
returns c = record { common = common_nowhere; none = none_everywhere }
