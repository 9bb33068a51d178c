use Rattle.d3d_judge.proofs.Opening.{opened_in_order}
use Rattle.d3d_judge.proofs.laws.a_clean_scope_opens_all.Goals as goal

pub returns : goal.returns
returns c = opened_in_order
