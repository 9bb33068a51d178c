-- It is a lemma.
use Rattle.lower_tables.proofs.AccessBits.{takes_in_kind}
use Rattle.lower_tables.proofs.laws.accesses_take_in_kinds.Goals as goal

pub returns : goal.returns
returns c = takes_in_kind
