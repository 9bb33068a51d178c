-- What tests keep of a fence.
use Rattle.std.specs.Prelude.{◌≡◌, ◌<◌, [], ◌∷◌}
use Rattle.fence_timeline.specs.declared.wait.Wait.{Wait}
use Rattle.fence_timeline.specs.Waits.{IsIn}
use Rattle.fence_timeline.specs.FenceList.{FenceList, IsFenceList, HaveCounters, pending_of}

-- a wait is armed, and each pending update is of one of two queues
pub record IsWaitedFor (s : FenceList) (w : Wait) : Type 0 where
  pub list : IsFenceList s
  pub armed : IsIn s.armed w
  pub two : HaveCounters (0 ∷ 0 ∷ []) (pending_of s)

-- two waits are armed, one after the other
pub record AreWaitedFor (s : FenceList) (first second : Wait) : Type 0 where
  pub list : IsFenceList s
  pub armed : s.armed ≡ first ∷ second ∷ []
  pub apart : first.number < second.number
