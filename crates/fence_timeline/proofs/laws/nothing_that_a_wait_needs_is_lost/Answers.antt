use Rattle.fence_timeline.proofs.FenceLaws.{nothing_lost}
use Rattle.fence_timeline.proofs.laws.nothing_that_a_wait_needs_is_lost.Goals as goal

pub returns : goal.returns
returns c = nothing_lost
