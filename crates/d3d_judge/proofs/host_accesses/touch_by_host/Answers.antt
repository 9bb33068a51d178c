use Rattle.std.proofs.Common.{length, map, sym, subst}
use Rattle.d3d_judge.specs.CopyScopes.{IsShapedFor}
use Rattle.d3d_judge.specs.Setting.{traits_of}
use Rattle.d3d_judge.proofs.CopyReady.{sub_there, thread_there}
use Rattle.d3d_judge.proofs.TableShapes.{call_keeps}
use Rattle.d3d_judge.proofs.host_accesses.touch_by_host.Goals as goal

pub add_call-requires-clause-sub : goal.add_call-requires-clause-sub
add_call-requires-clause-sub c = sub_there c.args.world.now c.args.touches.now.resources c.args.access c.requires.shaped c.requires.inside

pub add_call-requires-clause-actors : goal.add_call-requires-clause-actors
add_call-requires-clause-actors c = thread_there c.args.world.now c.args.touches.now.resources c.args.thread c.requires.shaped c.requires.thread

pub returns-clause-shaped : goal.returns-clause-shaped
returns-clause-shaped c =
    subst (IsShapedFor c.args.world.now) (sym c.add_call.ensures.resources)
    (call_keeps (length c.args.world.now.queues) (length c.args.world.now.scripts) c.args.thread c.args.number c.args.access (map traits_of c.args.world.now.resources) c.args.touches.now.resources c.requires.shaped)
