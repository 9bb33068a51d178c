use Rattle.std.proofs.Common.{◌≡◌, drop}
use Rattle.d3d_machine.specs.Effects.{after_commands}
use Rattle.d3d_machine.proofs.words.Words.run_all.Given as goal

abbrev pub invariant-loop-command : goal.invariant-loop-command
invariant-loop-command l = after_commands (drop l.command-index l.commands) l.self ≡ after_commands l.commands l.initial.self
