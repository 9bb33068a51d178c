use Rattle.std.proofs.Common.{◌≡◌, ◌≤◌, ◌-◌, length, drop}
use Rattle.std.specs.Option.{option_or}
use Rattle.fence_timeline.specs.Sufficient.{first_sufficient}
use Rattle.fence_timeline.specs.Runs.{updates_in, between}
use Rattle.fence_timeline.proofs.runs.first_from.Given as goal

abbrev pub invariant-loop-first : goal.invariant-loop-first
invariant-loop-first l = record {
  inside : l.end ≤ length l.entries.items;
  found :
      first_sufficient l.value (drop l.fn.from (updates_in l.entries.items))
      ≡ option_or (first_sufficient l.value (between l.start l.end (updates_in l.entries.items))) l.found;
}

abbrev pub decreases-loop-first : goal.decreases-loop-first
decreases-loop-first l = l.end - l.start
