use Rattle.std.proofs.Common.{◌≡◌, ◌≤◌, ◌++◌, drop}
use Rattle.barrier_lowering.specs.Startup.{startup_from}
use Rattle.barrier_lowering.proofs.startup.startup_commands.Given as goal

abbrev pub invariant-loop-resource : goal.invariant-loop-resource
invariant-loop-resource l = (l.commands ++ startup_from l.image (drop l.resource-index l.resources) ≡ startup_from 0 l.resources) × (l.image ≤ l.resource-index)
