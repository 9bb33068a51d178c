-- What was counted, and what is left of the block, are its commands that are not done.
use Rattle.std.proofs.Common.{◌≡◌, ◌+◌, ◌-◌, ◌≤◌, ◌&&◌, nat_lt, length, drop}
use Rattle.vk_port.specs.Blocks.{unmarked_in, undone_in, are_alike}
use Rattle.vk_port.proofs.tracked.Block.counted.Given as goal

abbrev pub invariant-loop-i : goal.invariant-loop-i
invariant-loop-i l =
    (l.left + length (unmarked_in (l.fn.start + 32 - l.i) (drop l.i l.running.batch.commands) (drop l.i l.running.done)) ≡ length (undone_in l.fn.start l.running))
    × ((l.alike && are_alike l.stage (unmarked_in (l.fn.start + 32 - l.i) (drop l.i l.running.batch.commands) (drop l.i l.running.done)))
    ≡ (nat_lt 0 l.stage && are_alike l.stage (undone_in l.fn.start l.running)))
    × (l.left + l.fn.start ≤ l.i)
