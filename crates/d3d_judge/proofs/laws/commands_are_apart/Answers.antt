use Rattle.d3d_judge.proofs.Apart.{commands_apart}
use Rattle.d3d_judge.proofs.laws.commands_are_apart.Goals as goal

pub returns : goal.returns
returns c = commands_apart
