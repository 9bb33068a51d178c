-- So many places are left behind the threads that were looked at.
use Rattle.std.proofs.Common.{map, length}
use Rattle.dx_base.specs.declared.steps.Step.TheVariants as step
use Rattle.sys_core.specs.Parts.{updates_in}
use Rattle.sys_core.specs.Nth.{ready_at}
use Rattle.sys_core.proofs.NthStep.{IsSought}
use Rattle.sys_core.proofs.nth.nth_thread.Given as goal

abbrev pub invariant-loop-thread : goal.invariant-loop-thread
invariant-loop-thread l =
    IsSought (ready_at l.world (map updates_in l.parts.fences) l.parts.seats) (λ t. step.Thread t) (length l.world.scripts) l.fn.k l.thread l.left
