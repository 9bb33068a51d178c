-- The queues that were counted, and those that are left.
use Rattle.std.proofs.Common.{◌≡◌, ◌≤◌, ◌+◌, ◌-◌, length}
use Rattle.dx_base.specs.declared.steps.Step.TheVariants as step
use Rattle.sys_core.specs.Nth.{holds_at}
use Rattle.sys_core.specs.Steps.{steps_where}
use Rattle.sys_core.proofs.nth.holding_queues.Given as goal

abbrev pub invariant-loop-queue : goal.invariant-loop-queue
invariant-loop-queue l =
    (l.count + length (steps_where (holds_at l.parts.held) (λ q. step.Worker q) l.queue (length l.fn.world.queues - l.queue))
    ≡ length (steps_where (holds_at l.parts.held) (λ q. step.Worker q) 0 (length l.fn.world.queues)))
    × (l.count ≤ l.queue)
