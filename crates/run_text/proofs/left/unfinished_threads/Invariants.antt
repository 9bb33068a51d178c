use Rattle.std.proofs.Common.{◌≡◌}
use Rattle.std.specs.List.{filter, range_with_len}
use Rattle.run_text.specs.Left.{is_unfinished_of}
use Rattle.run_text.proofs.left.unfinished_threads.Given as goal

abbrev pub invariant-loop-thread : goal.invariant-loop-thread
invariant-loop-thread l = l.found ≡ filter (is_unfinished_of l.scripts l.history) (range_with_len 0 l.thread)
