use Rattle.std.proofs.Common.{◌≡◌, map, take}
use Rattle.d3d_machine.specs.State.{zeros}
use Rattle.d3d_machine.proofs.words.Words.new.Given as goal

abbrev pub invariant-loop-resource : goal.invariant-loop-resource
invariant-loop-resource l = l.words ≡ map zeros (take l.resource-index l.resources)
