use Rattle.std.proofs.Common.{sym}
use Rattle.dx_base.proofs.Lists.{same_for_more}
use Rattle.d3d_machine.proofs.lists.no_recorders.Goals as goal

pub loop-of-preserved : goal.loop-of-preserved
loop-of-preserved c = rw (c.in_ok-push.ensures.ok, c.loop-of.invariant) (sym (same_for_more 0 c.args.types.now c.loop-of.of-index c.loop-of-test.true))
