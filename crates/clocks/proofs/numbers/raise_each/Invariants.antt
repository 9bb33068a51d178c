use Rattle.std.proofs.Common.{◌≡◌}
use Rattle.clocks.proofs.Places.{raised_before}
use Rattle.clocks.proofs.numbers.raise_each.Given as goal

abbrev pub invariant-loop-place : goal.invariant-loop-place
invariant-loop-place l = l.numbers ≡ raised_before l.place l.initial.numbers l.others
