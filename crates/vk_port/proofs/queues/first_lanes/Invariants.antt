-- One lane for each queue so far.
use Rattle.std.proofs.Common.{◌≡◌, replicate}
use Rattle.vk_port.specs.VkState.{no_lane}
use Rattle.vk_port.proofs.queues.first_lanes.Given as goal

abbrev pub invariant-loop-queue : goal.invariant-loop-queue
invariant-loop-queue l = l.lanes ≡ replicate l.queue no_lane
