use Rattle.barrier_lowering.proofs.Underway.{IsUnderway}
use Rattle.barrier_lowering.proofs.lowering.lower.Given as goal

abbrev pub invariant-loop-command : goal.invariant-loop-command
invariant-loop-command l = IsUnderway l.resources l.commands l.command-index l.changes l.lowered
