-- Each turn searches one lane.
use Rattle.std.proofs.Common.{[], take, refl}
use Rattle.vk_port.specs.DeviceStages.{lane_of_device}
use Rattle.vk_port.specs.Enabled.{lane_commands, commands}
use Rattle.vk_port.proofs.DeviceStages.{all_at}
use Rattle.vk_port.proofs.LanePlaces.{front_at}
use Rattle.vk_port.proofs.Finding.{turn_ends, turn_goes_on}
use Rattle.vk_port.proofs.find.find_commands.Goals as goal

pub returns-in-At : goal.returns-in-At
returns-in-At c =
    turn_ends (λ q lane. lane_commands q [] (take lane.passed lane.batches)) commands (λ _ _ _. refl) c.args.lanes.now c.loop-queue.queue c.loop-queue.left c.at-lane.result.now _ c.in-At.step
    c.loop-queue.invariant c.at-lane.ensures c.in-At.ensures

pub loop-queue-preserved : goal.loop-queue-preserved
loop-queue-preserved c =
    turn_goes_on (λ q lane. lane_commands q [] (take lane.passed lane.batches)) commands (λ _ _ _. refl) c.args.lanes.now c.loop-queue.queue c.loop-queue.left c.at-lane.result.now _ c.in-Left.rest
    c.loop-queue.invariant c.at-lane.ensures c.in-Left.ensures

pub find_in_lane-requires-clause-front : goal.find_in_lane-requires-clause-front
find_in_lane-requires-clause-front c =
    front_at c.args.fronts.now c.args.lanes.now c.loop-queue.queue c.at-front.result.now c.at-lane.result.now c.requires.fronts c.at-front.ensures c.at-lane.ensures

pub find_in_lane-requires-clause-stages : goal.find_in_lane-requires-clause-stages
find_in_lane-requires-clause-stages c = λ of_device. all_at lane_of_device c.args.lanes.now c.loop-queue.queue c.at-lane.result.now (c.requires.stages of_device) c.at-lane.ensures
