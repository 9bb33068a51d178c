use Rattle.std.proofs.Common.{◌≡◌, ◌≤◌, drop}
use Rattle.run_text.specs.Left.{progress_from, progress_of}
use Rattle.run_text.proofs.left.progress_of.Given as goal

abbrev pub invariant-loop-event : goal.invariant-loop-event
invariant-loop-event l =
    (progress_from l.thread l.progress (drop l.event-index l.history) ≡ progress_of l.thread l.history)
    × (l.progress.calls ≤ l.event-index)
