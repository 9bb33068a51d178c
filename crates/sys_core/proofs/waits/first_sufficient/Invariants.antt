-- The updates that were passed do not suffice.
use Rattle.std.proofs.Common.{◌≡◌, ◌≤◌, length}
use Rattle.d3d_machine.specs.Fences.{is_met}
use Rattle.sys_core.proofs.waits.first_sufficient.Given as goal

abbrev pub invariant-loop-place : goal.invariant-loop-place
invariant-loop-place l = (is_met l.updates l.fn.from l.fn.value ≡ is_met l.updates l.place l.fn.value) × (l.place ≤ length l.updates)
