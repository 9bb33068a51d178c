use Rattle.std.proofs.Common.{◌≡◌, take}
use Rattle.d3d_machine.specs.Lists.{commands_of}
use Rattle.d3d_machine.proofs.lists.gather_all.Given as goal

abbrev pub invariant-loop-list : goal.invariant-loop-list
invariant-loop-list l = l.commands ≡ commands_of l.lists (take l.list-index l.executed)
