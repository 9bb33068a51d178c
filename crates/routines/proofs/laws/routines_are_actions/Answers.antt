-- By the lemma.
use Rattle.routines.proofs.Acting.{actions}
use Rattle.routines.proofs.laws.routines_are_actions.Goals as goal

pub returns : goal.returns
returns c = actions
