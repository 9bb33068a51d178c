use Rattle.d3d_judge.proofs.Thresholds.{covers_grow, thresholds_tell, thresholds_are_behind}
use Rattle.d3d_judge.proofs.laws.thresholds_tell_what_is_covered.Goals as goal

pub returns : goal.returns
returns c = record { sets = covers_grow; thresholds = thresholds_tell; behind = thresholds_are_behind }
