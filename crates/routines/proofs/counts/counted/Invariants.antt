-- What the first invocations put, and the numbers as they have grown.
use Rattle.std.proofs.Common.{◌≡◌}
use Rattle.dx_base.specs.declared.kinds.Routine.TheVariants.{Histogram}
use Rattle.routines.specs.Puts.{puts_before}
use Rattle.routines.proofs.Counting.{AreCounts}
use Rattle.routines.proofs.counts.counted.Given as goal

abbrev pub invariant-loop-i : goal.invariant-loop-i
invariant-loop-i l = (l.puts ≡ puts_before Histogram l.m l.numbers l.i) × AreCounts l.m l.numbers l.i l.counts
