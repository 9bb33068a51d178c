-- It is a lemma.
use Rattle.lower_tables.proofs.ImageLayouts.{allows_made}
use Rattle.lower_tables.proofs.laws.layouts_allow_kinds.Goals as goal

pub returns : goal.returns
returns c = allows_made
