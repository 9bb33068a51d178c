use Rattle.std.proofs.Common.{refl}
use Rattle.fence_timeline.proofs.WaitList.{waits_behind}
use Rattle.fence_timeline.proofs.waits.Waits.arm.Goals as goal

pub invariant_of-self-2 : goal.invariant_of-self-2
invariant_of-self-2 c = rw c.in_ok-push_back.ensures.items (waits_behind _ _ _ c.self.invariant refl)
