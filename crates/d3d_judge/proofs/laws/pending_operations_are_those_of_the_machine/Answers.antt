use Rattle.d3d_judge.proofs.Pending.{pending_are_called}
use Rattle.d3d_judge.proofs.laws.pending_operations_are_those_of_the_machine.Goals as goal

pub returns : goal.returns
returns c = pending_are_called
