-- The threads that were looked at have ended.
use Rattle.std.proofs.Common.{◌≡◌, ◌-◌, length}
use Rattle.sys_core.specs.Finished.{has_ended_at, all_from}
use Rattle.sys_core.proofs.finished.have_ended.Given as goal

abbrev pub invariant-loop-thread : goal.invariant-loop-thread
invariant-loop-thread l =
    all_from (has_ended_at l.world l.parts.seats) 0 (length l.world.scripts)
    ≡ all_from (has_ended_at l.world l.parts.seats) l.thread (length l.world.scripts - l.thread)
