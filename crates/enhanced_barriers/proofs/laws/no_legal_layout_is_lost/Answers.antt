-- It is a lemma.
use Rattle.enhanced_barriers.proofs.LegalParts.{known_after}
use Rattle.enhanced_barriers.proofs.laws.no_legal_layout_is_lost.Goals as goal

pub returns : goal.returns
returns c = known_after
