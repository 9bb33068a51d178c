-- So many places are left behind the queues that were looked at.
use Rattle.std.proofs.Common.{length}
use Rattle.dx_base.specs.declared.steps.Step.TheVariants as step
use Rattle.sys_core.specs.Nth.{holds_at}
use Rattle.sys_core.proofs.NthStep.{IsSought}
use Rattle.sys_core.proofs.nth.nth_worker.Given as goal

abbrev pub invariant-loop-queue : goal.invariant-loop-queue
invariant-loop-queue l = IsSought (holds_at l.parts.held) (λ q. step.Worker q) (length l.fn.world.queues) l.fn.k l.queue l.left
