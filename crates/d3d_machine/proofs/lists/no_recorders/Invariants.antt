use Rattle.std.proofs.Common.{◌≡◌, map, take}
use Rattle.d3d_machine.proofs.lists.no_recorders.Given as goal

abbrev pub invariant-loop-of : goal.invariant-loop-of
invariant-loop-of l = l.numbers ≡ map (λ _. 0) (take l.of-index l.types)
