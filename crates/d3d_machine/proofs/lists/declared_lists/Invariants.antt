use Rattle.std.proofs.Common.{◌≡◌, map, take}
use Rattle.d3d_machine.specs.State.{declared_list}
use Rattle.d3d_machine.proofs.lists.declared_lists.Given as goal

abbrev pub invariant-loop-of : goal.invariant-loop-of
invariant-loop-of l = l.lists ≡ map (λ _. declared_list) (take l.of-index l.types)
