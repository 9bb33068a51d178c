use Rattle.std.proofs.Common.{◌≡◌, ◌++◌, map, take, drop}
use Rattle.d3d_machine.specs.Effects.{marked_place}
use Rattle.d3d_machine.proofs.thread_places.mark_all.Given as goal

abbrev pub invariant-loop-at : goal.invariant-loop-at
invariant-loop-at l = l.places ≡ map (marked_place l.fence.0 l.value) (take l.at l.initial.places) ++ drop l.at l.initial.places
