use Rattle.std.proofs.Common.{◌≡◌, ◌≤◌, ◌+◌, ◌-◌, length, drop}
use Rattle.fence_timeline.proofs.fence.let_go.Given as goal

abbrev pub invariant-loop-base : goal.invariant-loop-base
invariant-loop-base l = record {
  low : l.fn.base ≤ l.base;
  high : l.base ≤ l.first;
  applied : l.applied.items ≡ drop (l.base - l.fn.base) l.fn.applied.items;
  room : l.applied.spare + length l.applied.items ≡ l.fn.applied.spare + length l.fn.applied.items;
}

abbrev pub decreases-loop-base : goal.decreases-loop-base
decreases-loop-base l = l.first - l.base
