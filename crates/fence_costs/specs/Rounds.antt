-- What rounds on a fence keep.
use Rattle.std.specs.Prelude.{◌≡◌, [], ◌∷◌}
use Rattle.fence_timeline.specs.FenceList.{FenceList, IsFenceList, HaveCounters, pending_of}

-- a fence whose pending updates are of one queue
pub record IsOfOneQueue (s : FenceList) : Type 0 where
  pub list : IsFenceList s
  pub one : HaveCounters (0 ∷ []) (pending_of s)

-- a fence goes on with the same armed waits
pub record GoesOn (s t : FenceList) : Type 0 where
  pub queue : IsOfOneQueue t
  pub armed : t.armed ≡ s.armed
