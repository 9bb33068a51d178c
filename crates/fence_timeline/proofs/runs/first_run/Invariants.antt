use Rattle.std.proofs.Common.{◌≤◌, ◌-◌}
use Rattle.fence_timeline.specs.Runs.{updates_in}
use Rattle.fence_timeline.proofs.Searching.{IsFound}
use Rattle.fence_timeline.proofs.runs.first_run.Given as goal

abbrev pub invariant-loop-rest : goal.invariant-loop-rest
invariant-loop-rest l = record {
  inside : l.rest ≤ l.fn.end;
  found : IsFound l.value (updates_in l.entries.items) l.from l.fn.end l.rest l.found;
}

abbrev pub decreases-loop-rest : goal.decreases-loop-rest
decreases-loop-rest l = l.rest - l.from
