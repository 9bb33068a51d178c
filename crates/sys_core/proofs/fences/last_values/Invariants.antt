-- So far there is the last update of each fence before the place.
use Rattle.std.proofs.Common.{◌≡◌, map, take}
use Rattle.d3d_machine.specs.Past.{last_of}
use Rattle.sys_core.proofs.fences.last_values.Given as goal

abbrev pub invariant-loop-updates : goal.invariant-loop-updates
invariant-loop-updates l = l.values ≡ map (λ updates. last_of updates.items) (take l.updates-index l.fences)
