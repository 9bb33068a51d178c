use Rattle.d3d_judge.proofs.Judging.{clean_clocks_are}
use Rattle.d3d_judge.proofs.laws.clean_clocks_are_those_of_the_history.Goals as goal

pub returns : goal.returns
returns c = clean_clocks_are
