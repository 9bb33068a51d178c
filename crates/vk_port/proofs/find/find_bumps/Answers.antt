-- Each turn searches one lane.
use Rattle.std.proofs.Common.{refl}
use Rattle.vk_port.specs.Enabled.{ready_bump, bumps}
use Rattle.vk_port.proofs.Finding.{turn_ends, turn_goes_on}
use Rattle.vk_port.proofs.find.find_bumps.Goals as goal

pub returns-in-At : goal.returns-in-At
returns-in-At c =
    turn_ends ready_bump bumps (λ _ _ _. refl) c.args.lanes.now c.loop-queue.queue c.loop-queue.left c.at.result.now _ c.in-At.step
    c.loop-queue.invariant c.at.ensures c.in-At.ensures

pub loop-queue-preserved : goal.loop-queue-preserved
loop-queue-preserved c =
    turn_goes_on ready_bump bumps (λ _ _ _. refl) c.args.lanes.now c.loop-queue.queue c.loop-queue.left c.at.result.now _ c.in-Left.rest
    c.loop-queue.invariant c.at.ensures c.in-Left.ensures
