-- It is a lemma.
use Rattle.barrier_lowering.proofs.Turns.{decide_no_more}
use Rattle.barrier_lowering.proofs.laws.layouts_decide_no_more.Goals as goal

pub returns : goal.returns
returns c = decide_no_more
