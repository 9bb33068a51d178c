use Rattle.fence_timeline.proofs.FenceLaws.{marks}
use Rattle.fence_timeline.proofs.laws.a_mark_is_an_update_that_suffices.Goals as goal

pub returns : goal.returns
returns c = marks
