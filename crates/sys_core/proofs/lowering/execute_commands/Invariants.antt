use Rattle.std.proofs.Common.{◌≡◌, ◌∷◌, take}
use Rattle.sys_core.specs.Lowering.{leading, lower_commands}
use Rattle.sys_core.proofs.lowering.execute_commands.Given as goal

abbrev pub invariant-loop-command : goal.invariant-loop-command
invariant-loop-command l = l.commands ≡ leading ∷ lower_commands l.world (take l.command-index l.recorded)
