use Rattle.std.proofs.Common.{◌≡◌, [], map, take}
use Rattle.d3d_machine.specs.Machine.{operations_in}
use Rattle.d3d_machine.proofs.machine.empty_queues.Given as goal

abbrev pub invariant-loop-queue : goal.invariant-loop-queue
invariant-loop-queue l = map operations_in l.called ≡ map (λ _. []) (take l.queue-index l.queues)
