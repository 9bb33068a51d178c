use Rattle.d3d_judge.proofs.Apart.{places_count}
use Rattle.d3d_judge.proofs.laws.places_count_commands.Goals as goal

pub returns : goal.returns
returns c = places_count
