use Rattle.std.proofs.Common.{◌+◌}
use Rattle.dx_base.proofs.Lists.{write_is_changed}
use Rattle.d3d_judge.specs.SubTables.{after_call}
use Rattle.d3d_judge.proofs.word_touches.add_call_to.Goals as goal

pub returns : goal.returns
returns c = write_is_changed (after_call c.args.thread c.args.access.writes c.args.access.first (c.args.access.first + c.args.access.words) c.args.number) c.args.subs.now c.args.access.sub c.at_mut.result.now c.add_call.new.self c.requires.sub c.at_mut.ensures.value c.add_call.ensures
