use Rattle.std.proofs.Common.{◌≡◌}
use Rattle.std.specs.List.{filter, range_with_len}
use Rattle.run_text.specs.Left.{is_busy}
use Rattle.run_text.proofs.left.busy_queues.Given as goal

abbrev pub invariant-loop-queue : goal.invariant-loop-queue
invariant-loop-queue l = l.found ≡ filter (is_busy l.history) (range_with_len 0 l.queue)
