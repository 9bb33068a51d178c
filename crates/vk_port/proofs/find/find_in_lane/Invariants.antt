-- What is left of the search is in the batches that have passed, from the place on.
use Rattle.std.proofs.Common.{◌≡◌, drop, take}
use Rattle.vk_port.specs.Ahead.{lane_steps, no_ahead}
use Rattle.vk_port.specs.Found.{found}
use Rattle.vk_port.proofs.find.find_in_lane.Given as goal

abbrev pub invariant-loop-i : goal.invariant-loop-i
invariant-loop-i l =
    found (lane_steps l.queue no_ahead (take l.lane.passed l.lane.batches)) l.fn.k
    ≡ found (lane_steps l.queue l.ahead (drop l.i (take l.lane.passed l.lane.batches))) l.left
