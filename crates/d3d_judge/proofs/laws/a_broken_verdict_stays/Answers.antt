use Rattle.d3d_judge.proofs.Judging.{broken_stays}
use Rattle.d3d_judge.proofs.laws.a_broken_verdict_stays.Goals as goal

pub returns : goal.returns
returns c = broken_stays
