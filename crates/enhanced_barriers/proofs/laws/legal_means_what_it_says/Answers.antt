-- It is a lemma.
use Rattle.enhanced_barriers.proofs.LegalParts.{legal_means}
use Rattle.enhanced_barriers.proofs.laws.legal_means_what_it_says.Goals as goal

pub returns : goal.returns
returns c = legal_means
