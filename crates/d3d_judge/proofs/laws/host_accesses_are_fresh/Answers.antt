use Rattle.d3d_judge.proofs.Fresh.{fresh}
use Rattle.d3d_judge.proofs.laws.host_accesses_are_fresh.Goals as goal

pub returns : goal.returns
returns c = record { loads = λ s t r. fresh s t; stores = λ s t r. fresh s t }
