use Rattle.d3d_judge.proofs.CopyReady.{sub_there, actors_there}
use Rattle.d3d_judge.proofs.host_accesses.meets_any.Goals as goal

pub breaks_host-requires-clause-sub : goal.breaks_host-requires-clause-sub
breaks_host-requires-clause-sub c = sub_there c.args.world.now c.args.touches.now.resources c.args.access c.requires.shaped c.requires.inside

pub breaks_host-requires-clause-actors : goal.breaks_host-requires-clause-actors
breaks_host-requires-clause-actors c = actors_there c.args.world.now c.args.touches.now.resources c.args.clock.now c.requires.shaped c.requires.sized
