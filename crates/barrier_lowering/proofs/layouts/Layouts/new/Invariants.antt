use Rattle.std.proofs.Common.{◌≡◌, ◌++◌, drop}
use Rattle.barrier_lowering.specs.Layouts.{first_layouts}
use Rattle.barrier_lowering.proofs.layouts.Layouts.new.Given as goal

abbrev pub invariant-loop-resource : goal.invariant-loop-resource
invariant-loop-resource l = l.images ++ first_layouts (drop l.resource-index l.resources) ≡ first_layouts l.resources
