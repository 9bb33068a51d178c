-- It is a lemma.
use Rattle.enhanced_barriers.proofs.LegalParts.{legal_everywhere}
use Rattle.enhanced_barriers.proofs.laws.copies_are_legal_everywhere.Goals as goal

pub returns : goal.returns
returns c = legal_everywhere
