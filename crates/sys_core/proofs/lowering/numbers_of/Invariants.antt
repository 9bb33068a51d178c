use Rattle.std.proofs.Common.{◌≡◌, ◌≤◌, ◌++◌, drop}
use Rattle.sys_core.proofs.Numbers.{numbers_from}
use Rattle.sys_core.proofs.lowering.numbers_of.Given as goal

abbrev pub invariant-loop-resource : goal.invariant-loop-resource
invariant-loop-resource l = (l.numbers ++ numbers_from l.number (drop l.resource-index l.resources) ≡ numbers_from 0 l.resources) × (l.number ≤ l.resource-index)
