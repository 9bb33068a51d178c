use Rattle.fence_timeline.specs.Waits.{IsIn}
use Rattle.fence_costs.specs.Rounds.{IsOfOneQueue}
use Rattle.fence_costs.proofs.cases.rise_beside.Given as goal

abbrev pub invariant-loop-k : goal.invariant-loop-k
invariant-loop-k l = IsOfOneQueue l.fence × IsIn l.fence.armed l.early
