use Rattle.std.proofs.Common.{arith}
use Rattle.d3d_judge.specs.CarriedClocks.{update_of}
use Rattle.d3d_judge.proofs.CarriedClocks.{pushed_nowhere}
use Rattle.d3d_judge.proofs.carried_clocks.push_where_there.Goals as goal

pub returns-else-fence-len : goal.returns-else-fence-len
returns-else-fence-len c = pushed_nowhere c.args.updates.now c.args.fence (update_of c.args.update) (let l = c.if-fence-len.false in let e = c.len.ensures in omega (arith, l, e))
