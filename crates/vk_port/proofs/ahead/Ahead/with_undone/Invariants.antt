-- The commands from the place on are still to be summed up.
use Rattle.std.proofs.Common.{◌≡◌, ◌-◌, drop}
use Rattle.vk_port.specs.Ahead.{summary}
use Rattle.vk_port.specs.Enabled.{unmarked}
use Rattle.vk_port.proofs.ahead.Ahead.with_undone.Given as goal

abbrev pub invariant-loop-i : goal.invariant-loop-i
invariant-loop-i l =
    summary l.fn.self (unmarked l.running.batch.commands l.running.done)
    ≡ summary l.ahead (unmarked (drop l.i l.running.batch.commands) (drop l.i l.running.done))

abbrev pub decreases-loop-i : goal.decreases-loop-i
decreases-loop-i l = l.count - l.i
