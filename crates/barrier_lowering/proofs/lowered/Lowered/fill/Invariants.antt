use Rattle.std.proofs.Common.{◌≡◌, map, take}
use Rattle.barrier_lowering.specs.Lowered.{filled_command}
use Rattle.barrier_lowering.proofs.lowered.Lowered.fill.Given as goal

abbrev pub invariant-loop-command : goal.invariant-loop-command
invariant-loop-command l = l.commands ≡ map (filled_command l.layouts.images) (take l.command-index l.self.commands)
