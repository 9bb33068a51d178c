use Rattle.trace_runner.proofs.OfRounds.{rounds_are_calm}
use Rattle.trace_runner.proofs.laws.runs_of_rounds_are_calm.Goals as goal

pub returns : goal.returns
returns c = rounds_are_calm
