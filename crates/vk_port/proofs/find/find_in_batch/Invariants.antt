-- What is left of the search is in the commands from the place on.
use Rattle.std.proofs.Common.{◌≡◌, ◌+◌, ◌-◌, drop}
use Rattle.vk_port.specs.Ahead.{batch_steps}
use Rattle.vk_port.specs.Found.{found}
use Rattle.vk_port.proofs.find.find_in_batch.Given as goal

abbrev pub invariant-loop-i : goal.invariant-loop-i
invariant-loop-i l =
    found (batch_steps l.queue l.running.batch.number 1 l.fn.before l.running.batch.commands l.running.done) l.fn.k
    ≡ found (batch_steps l.queue l.running.batch.number (l.i + 1) l.ahead (drop l.i l.running.batch.commands) (drop l.i l.running.done)) l.left

abbrev pub decreases-loop-i : goal.decreases-loop-i
decreases-loop-i l = l.count - l.i
