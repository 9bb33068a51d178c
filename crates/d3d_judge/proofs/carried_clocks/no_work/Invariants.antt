use Rattle.std.proofs.Common.{◌≡◌, map, replicate, []}
use Rattle.d3d_judge.specs.CarriedClocks.{pending_in}
use Rattle.d3d_judge.proofs.carried_clocks.no_work.Given as goal

abbrev pub invariant-loop-at : goal.invariant-loop-at
invariant-loop-at l = map pending_in l.pending ≡ replicate l._at []
