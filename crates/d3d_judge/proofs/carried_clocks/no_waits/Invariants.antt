use Rattle.std.proofs.Common.{◌≡◌, map, replicate}
use Rattle.d3d_judge.specs.Carried.{no_wait}
use Rattle.d3d_judge.specs.CarriedClocks.{armed_of}
use Rattle.d3d_judge.proofs.carried_clocks.no_waits.Given as goal

abbrev pub invariant-loop-at : goal.invariant-loop-at
invariant-loop-at l = map armed_of l.waits ≡ replicate l._at no_wait
