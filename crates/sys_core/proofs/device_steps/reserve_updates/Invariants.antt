-- The queues before the place have their room.
use Rattle.std.proofs.Common.{◌≡◌, map, take}
use Rattle.sys_core.specs.Parts.{updates_in, HasRoomForEach}
use Rattle.sys_core.proofs.device_steps.reserve_updates.Given as goal

abbrev pub invariant-loop-queue : goal.invariant-loop-queue
invariant-loop-queue l = HasRoomForEach (take l.queue-index l.held) l.fences × (map updates_in l.fences ≡ map updates_in l.initial.fences)
