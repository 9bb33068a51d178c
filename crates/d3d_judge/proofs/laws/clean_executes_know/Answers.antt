use Rattle.d3d_judge.proofs.Judging.{clean_executes_know}
use Rattle.d3d_judge.proofs.laws.clean_executes_know.Goals as goal

pub returns : goal.returns
returns c = clean_executes_know
