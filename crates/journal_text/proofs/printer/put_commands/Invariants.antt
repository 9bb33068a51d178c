-- The rest is still to be printed.
use Rattle.std.proofs.Common.{◌≡◌, ◌++◌, drop, flat_map}
use Rattle.journal_text.specs.Printing.{command_text}
use Rattle.journal_text.proofs.printer.put_commands.Given as goal

abbrev pub invariant-loop-command : goal.invariant-loop-command
invariant-loop-command l = l.out.items ++ flat_map command_text (drop l.command-index l.commands) ≡ l.initial.out.items ++ flat_map command_text l.commands
