-- One more command is done.
use Rattle.std.proofs.Common.{arith}
use Rattle.vk_port.proofs.LanePlaces.{taken_more}
use Rattle.vk_port.proofs.fronts.done_to.Goals as goal

pub loop-i-preserved : goal.loop-i-preserved
loop-i-preserved c =
    taken_more (λ mark. mark) c.args.running.now.done c.loop-i.i c.at.result.now c.at.ensures (grind (arith, c.if-not-at.false)) c.loop-i.invariant
