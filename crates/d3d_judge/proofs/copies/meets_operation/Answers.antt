use Rattle.d3d_judge.proofs.CopyReady.{sub_there, actors_there}
use Rattle.d3d_judge.proofs.copies.meets_operation.Goals as goal

pub breaks_one-requires-clause-sub : goal.breaks_one-requires-clause-sub
breaks_one-requires-clause-sub c = sub_there c.args.world.now c.args.touches.now.resources c.args.access c.requires.shaped c.requires.inside

pub breaks_one-requires-clause-actors : goal.breaks_one-requires-clause-actors
breaks_one-requires-clause-actors c = actors_there c.args.world.now c.args.touches.now.resources c.args.clock.now c.requires.shaped c.requires.sized
