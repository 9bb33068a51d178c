-- It is a lemma.
use Rattle.barrier_lowering.proofs.FirstLayouts.{startup_gives}
use Rattle.barrier_lowering.proofs.laws.startup_gives_first_layouts.Goals as goal

pub returns : goal.returns
returns c = startup_gives
