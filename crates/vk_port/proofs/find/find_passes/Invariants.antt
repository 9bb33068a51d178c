-- What is left of the search is in the lanes from the queue on.
use Rattle.std.proofs.Common.{◌≡◌, drop}
use Rattle.vk_port.specs.Enabled.{passes}
use Rattle.vk_port.specs.Found.{found}
use Rattle.vk_port.proofs.find.find_passes.Given as goal

abbrev pub invariant-loop-queue : goal.invariant-loop-queue
invariant-loop-queue l = found (passes l.timelines 0 l.lanes) l.fn.k ≡ found (passes l.timelines l.queue (drop l.queue l.lanes)) l.left
