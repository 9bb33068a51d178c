use Rattle.std.proofs.Common.{◌≡◌, ◌++◌, drop}
use Rattle.run_text.specs.Output.{refused_from}
use Rattle.run_text.proofs.outcome.refused_of.Given as goal

abbrev pub invariant-loop-at : goal.invariant-loop-at
invariant-loop-at l = l.places ++ refused_from l.at (drop l.at l.declared) ≡ refused_from 0 l.declared
