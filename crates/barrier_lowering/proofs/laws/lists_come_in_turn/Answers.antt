-- It is a lemma.
use Rattle.barrier_lowering.proofs.Turns.{in_turn}
use Rattle.barrier_lowering.proofs.laws.lists_come_in_turn.Goals as goal

pub returns : goal.returns
returns c = in_turn
