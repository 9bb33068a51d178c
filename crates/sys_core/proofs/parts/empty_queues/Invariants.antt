use Rattle.std.proofs.Common.{◌≡◌, take, map}
use Rattle.sys_core.specs.Parts.{queued, no_queue}
use Rattle.sys_core.proofs.parts.empty_queues.Given as goal

abbrev pub invariant-loop-queue : goal.invariant-loop-queue
invariant-loop-queue l = map queued l.held ≡ map (λ _. no_queue) (take l.queue-index l.queues)
