use Rattle.std.proofs.Common.{◌≡◌, drop}
use Rattle.barrier_lowering.specs.Lowered.{advanced_by_all}
use Rattle.barrier_lowering.proofs.lowered.Lowered.advance.Given as goal

abbrev pub invariant-loop-command : goal.invariant-loop-command
invariant-loop-command l = advanced_by_all (drop l.command-index l.self.commands) l.layouts.images ≡ advanced_by_all l.self.commands l.initial.layouts.images
