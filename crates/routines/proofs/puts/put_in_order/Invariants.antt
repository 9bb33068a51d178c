-- What the first invocations put.
use Rattle.std.proofs.Common.{◌≡◌}
use Rattle.routines.specs.Puts.{puts_before}
use Rattle.routines.proofs.puts.put_in_order.Given as goal

abbrev pub invariant-loop-i : goal.invariant-loop-i
invariant-loop-i l = l.puts ≡ puts_before l.routine l.m l.numbers l.i
