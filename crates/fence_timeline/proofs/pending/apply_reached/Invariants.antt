use Rattle.std.proofs.Common.{◌≡◌, ◌≤◌, ◌++◌, length}
use Rattle.fence_timeline.specs.FenceList.{caught, left, HaveCounters}
use Rattle.fence_timeline.proofs.pending.apply_reached.Given as goal

abbrev pub invariant-loop-update : goal.invariant-loop-update
invariant-loop-update l = record {
  room : length l.pending.items ≤ l.applied.spare;
  have : HaveCounters l.counters l.pending.items;
  applied : l.applied.items ++ caught l.counters l.pending.items ≡ l.fn.applied.items ++ caught l.counters l.fn.pending.items;
  left : left l.counters l.pending.items ≡ left l.counters l.fn.pending.items;
}

abbrev pub decreases-loop-update : goal.decreases-loop-update
decreases-loop-update l = length l.pending.items
