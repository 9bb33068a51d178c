use Rattle.std.proofs.Common.{◌≡◌, replicate}
use Rattle.clocks.specs.Clocks.{zero_clock}
use Rattle.d3d_judge.proofs.carried_clocks.equal_clocks.Given as goal

abbrev pub invariant-loop-at : goal.invariant-loop-at
invariant-loop-at l = l.clocks ≡ replicate l._at (zero_clock l.queues l.threads)
