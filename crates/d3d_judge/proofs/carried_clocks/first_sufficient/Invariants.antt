use Rattle.std.proofs.Common.{◌≡◌, ◌-◌, map, drop, length}
use Rattle.d3d_judge.specs.Carried.{sufficient}
use Rattle.d3d_judge.specs.CarriedClocks.{update_of}
use Rattle.d3d_judge.proofs.carried_clocks.first_sufficient.Given as goal

abbrev pub invariant-loop-at : goal.invariant-loop-at
invariant-loop-at l = sufficient l.value (drop l.from (map update_of l.updates)) ≡ sufficient l.value (drop l.at (map update_of l.updates))

abbrev pub decreases-loop-at : goal.decreases-loop-at
decreases-loop-at l = length l.updates - l.at
