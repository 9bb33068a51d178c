use Rattle.fence_timeline.proofs.FenceLaws.{catches_up}
use Rattle.fence_timeline.proofs.laws.pending_updates_are_applied_in_order.Goals as goal

pub returns : goal.returns
returns c = catches_up
