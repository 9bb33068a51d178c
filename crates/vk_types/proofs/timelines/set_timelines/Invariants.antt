-- The pairs from the place on are still to be set.
use Rattle.std.proofs.Common.{◌≡◌, drop}
use Rattle.vk_types.specs.Timelines.{after_sets}
use Rattle.vk_types.proofs.timelines.set_timelines.Given as goal

abbrev pub invariant-loop-i : goal.invariant-loop-i
invariant-loop-i l = after_sets l.sets l.initial.timelines ≡ after_sets (drop l.i l.sets) l.timelines
