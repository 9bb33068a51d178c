use Rattle.d3d_judge.proofs.ClockSizes.{sized_first, sized_carried}
use Rattle.d3d_judge.proofs.laws.clocks_keep_their_sizes.Goals as goal

pub returns : goal.returns
returns c = record { first = sized_first; next = sized_carried }
