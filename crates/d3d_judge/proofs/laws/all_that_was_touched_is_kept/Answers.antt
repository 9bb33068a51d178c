use Rattle.d3d_judge.proofs.Judging.{made_is_all}
use Rattle.d3d_judge.proofs.Opening.{touches_all}
use Rattle.d3d_judge.proofs.laws.all_that_was_touched_is_kept.Goals as goal

pub returns : goal.returns
returns c = record { of_histories = made_is_all; of_scopes = touches_all }
