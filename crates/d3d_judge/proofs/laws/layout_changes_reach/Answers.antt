use Rattle.d3d_judge.proofs.Rest.{changes_reached}
use Rattle.d3d_judge.proofs.laws.layout_changes_reach.Goals as goal

pub returns : goal.returns
returns c = changes_reached
