use Rattle.fence_costs.specs.Rounds.{IsOfOneQueue}
use Rattle.fence_costs.proofs.cases.fall.Given as goal

abbrev pub invariant-loop-k : goal.invariant-loop-k
invariant-loop-k l = IsOfOneQueue l.fence
