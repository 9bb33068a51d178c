-- The threads that were counted, and those that are left.
use Rattle.std.proofs.Common.{◌≡◌, ◌≤◌, ◌+◌, ◌-◌, map, length}
use Rattle.dx_base.specs.declared.steps.Step.TheVariants as step
use Rattle.sys_core.specs.Parts.{updates_in}
use Rattle.sys_core.specs.Nth.{ready_at}
use Rattle.sys_core.specs.Steps.{steps_where}
use Rattle.sys_core.proofs.nth.ready_threads.Given as goal

abbrev pub invariant-loop-thread : goal.invariant-loop-thread
invariant-loop-thread l =
    (l.count + length (steps_where (ready_at l.world (map updates_in l.parts.fences) l.parts.seats) (λ t. step.Thread t) l.thread (length l.world.scripts - l.thread))
    ≡ length (steps_where (ready_at l.world (map updates_in l.parts.fences) l.parts.seats) (λ t. step.Thread t) 0 (length l.world.scripts)))
    × (l.count ≤ l.thread)
