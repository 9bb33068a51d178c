use Rattle.fence_timeline.proofs.Peaks.{indexed_rest}
use Rattle.fence_timeline.proofs.updates.Updates.pop.Goals as goal

pub invariant_of-self : goal.invariant_of-self
invariant_of-self c = rw c.pop_front.ensures.rest (indexed_rest _ c.self.invariant)
