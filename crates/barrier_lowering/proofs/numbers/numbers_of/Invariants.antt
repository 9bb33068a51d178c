use Rattle.std.proofs.Common.{◌≡◌, ◌≤◌, ◌++◌, drop}
use Rattle.barrier_lowering.proofs.NumberTables.{numbers_from}
use Rattle.barrier_lowering.proofs.numbers.numbers_of.Given as goal

abbrev pub invariant-loop-resource : goal.invariant-loop-resource
invariant-loop-resource l = (l.numbers ++ numbers_from l.sort l.number (drop l.resource-index l.resources) ≡ numbers_from l.sort 0 l.resources) × (l.number ≤ l.resource-index)
