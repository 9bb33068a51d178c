-- It is a lemma.
use Rattle.barrier_lowering.proofs.FirstLayouts.{stay_whole}
use Rattle.barrier_lowering.proofs.laws.layouts_stay_whole.Goals as goal

pub returns : goal.returns
returns c = stay_whole
