use Rattle.d3d_judge.proofs.Rest.{allowed_and_kept}
use Rattle.d3d_judge.proofs.laws.accesses_are_allowed.Goals as goal

pub returns : goal.returns
returns c = allowed_and_kept
