-- It is a lemma.
use Rattle.enhanced_barriers.proofs.Pairs.{covers_pair}
use Rattle.enhanced_barriers.proofs.laws.covers_goes_by_pairs.Goals as goal

pub returns : goal.returns
returns c = covers_pair
