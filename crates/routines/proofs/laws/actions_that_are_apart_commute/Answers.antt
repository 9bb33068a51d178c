-- By the lemma.
use Rattle.routines.proofs.Commuting.{commute}
use Rattle.routines.proofs.laws.actions_that_are_apart_commute.Goals as goal

pub returns : goal.returns
returns g c = commute _ _
