use Rattle.std.proofs.Common.{◌≡◌, ◌≤◌, take, count_by}
use Rattle.run_text.specs.Left.{gives, completes}
use Rattle.run_text.proofs.left.is_busy.Given as goal

abbrev pub invariant-loop-event : goal.invariant-loop-event
invariant-loop-event l =
    (l.given ≡ count_by (gives l.queue) (take l.event-index l.history))
    × (l.completed ≡ count_by (completes l.queue) (take l.event-index l.history))
    × (l.given ≤ l.event-index)
    × (l.completed ≤ l.event-index)
