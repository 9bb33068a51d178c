use Rattle.fence_timeline.proofs.Peaks.{indexed_behind}
use Rattle.fence_timeline.proofs.updates.Updates.push_reserved.Goals as goal

pub invariant_of-self : goal.invariant_of-self
invariant_of-self c =
    rw c.push_back_reserved.ensures.items
    (indexed_behind _ _ _ c.self.invariant c.entry_behind-entry.ensures.update c.entry_behind-entry.ensures.peak)
