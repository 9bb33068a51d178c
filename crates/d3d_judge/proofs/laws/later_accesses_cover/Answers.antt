use Rattle.d3d_judge.proofs.Later.{later_covers}
use Rattle.d3d_judge.proofs.laws.later_accesses_cover.Goals as goal

pub returns : goal.returns
returns c = later_covers
