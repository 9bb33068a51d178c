use Rattle.trace_runner.proofs.OfRounds.{rounds_go_on}
use Rattle.trace_runner.proofs.laws.runs_of_rounds_go_on.Goals as goal

pub returns : goal.returns
returns c = rounds_go_on
