-- The rest is still to be printed.
use Rattle.std.proofs.Common.{◌≡◌, ◌++◌, drop, flat_map}
use Rattle.journal_text.specs.Printing.{step_text}
use Rattle.journal_text.proofs.printer.put_steps.Given as goal

abbrev pub invariant-loop-step : goal.invariant-loop-step
invariant-loop-step l = l.out.items ++ flat_map step_text (drop l.step-index l.steps) ≡ l.initial.out.items ++ flat_map step_text l.steps
