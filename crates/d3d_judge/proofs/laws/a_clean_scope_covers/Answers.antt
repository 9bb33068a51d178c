use Rattle.d3d_judge.proofs.Covers.{scope_covers}
use Rattle.d3d_judge.proofs.laws.a_clean_scope_covers.Goals as goal

pub returns : goal.returns
returns c = scope_covers
