use Rattle.std.proofs.Common.{◌≡◌, map, take}
use Rattle.d3d_machine.specs.State.{opening_place}
use Rattle.d3d_machine.proofs.thread_places.opening_places.Given as goal

abbrev pub invariant-loop-script : goal.invariant-loop-script
invariant-loop-script l = l.places ≡ map (λ _. opening_place) (take l.script-index l.scripts)
