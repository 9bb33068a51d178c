use Rattle.fence_timeline.proofs.FenceLaws.{targets_in_order}
use Rattle.fence_timeline.proofs.laws.a_target_is_the_first_that_suffices.Goals as goal

pub returns : goal.returns
returns c = targets_in_order
