use Rattle.std.proofs.Common.{sym}
use Rattle.dx_base.proofs.Lists.{same_for_more}
use Rattle.d3d_machine.specs.State.{declared_list}
use Rattle.d3d_machine.proofs.lists.declared_lists.Goals as goal

pub loop-of-preserved : goal.loop-of-preserved
loop-of-preserved c = rw (c.in_ok-push.ensures.ok, c.loop-of.invariant, c.declared.ensures) (sym (same_for_more declared_list c.args.types.now c.loop-of.of-index c.loop-of-test.true))
