use Rattle.d3d_judge.proofs.Ahead.{ahead}
use Rattle.d3d_judge.proofs.laws.operations_know_ahead_through_one_another.Goals as goal

pub returns : goal.returns
returns c = ahead
