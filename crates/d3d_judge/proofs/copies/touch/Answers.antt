use Rattle.d3d_judge.proofs.CopyReady.{sub_there, queue_there}
use Rattle.d3d_judge.proofs.copies.touch.Goals as goal

pub add_scope-requires-clause-sub : goal.add_scope-requires-clause-sub
add_scope-requires-clause-sub c = sub_there c.args.world.now c.args.touches.now.resources c.args.access c.requires.shaped c.requires.inside

pub add_scope-requires-clause-actors : goal.add_scope-requires-clause-actors
add_scope-requires-clause-actors c = queue_there c.args.world.now c.args.touches.now.resources c.args.queue c.requires.shaped c.requires.queue
