use Rattle.std.proofs.Common.{refl}
use Rattle.dx_base.proofs.Lists.{map_write}
use Rattle.d3d_judge.specs.CarriedClocks.{armed_of}
use Rattle.d3d_judge.proofs.carried_clocks.set_wait.Goals as goal

pub returns : goal.returns
returns c = map_write armed_of (λ _. armed_of c.args.wait) c.args.waits.now c.args.thread c.at_mut.result.now c.args.wait c.requires c.at_mut.ensures.value refl
