-- Each turn searches one batch.
use Rattle.std.proofs.Common.{◌+◌, ◌∙◌, take, arith, sym, ap}
use Rattle.std.proofs.lemmas.Bool.{and_parts}
use Rattle.vk_port.specs.DeviceStages.{batch_of_device, is_closed}
use Rattle.vk_port.proofs.DeviceStages.{all_at}
use Rattle.vk_port.specs.Ahead.{no_ahead}
use Rattle.vk_port.specs.Enabled.{all_done}
use Rattle.vk_port.specs.Found.{found}
use Rattle.vk_port.proofs.LanePlaces.{front_parts, lane_from, taken_first}
use Rattle.vk_port.proofs.Searching.{lane_ends, lane_goes_on, lane_is_through, lane_through}
use Rattle.vk_port.proofs.find.find_in_lane.Goals as goal

pub returns-in-At : goal.returns-in-At
returns-in-At c =
    lane_ends c.args.queue c.args.lane.now.passed c.args.lane.now.batches c.args.k c.loop-i.ahead c.loop-i.i c.loop-i.left c.loop-i.invariant
    c.tracked-running.result.now (omega arith) c.tracked-running.ensures c.in-At.step c.in-At.ensures

pub loop-i-preserved : goal.loop-i-preserved
loop-i-preserved c =
    lane_goes_on c.args.queue c.args.lane.now.passed c.args.lane.now.batches c.args.k c.loop-i.ahead c.loop-i.i c.loop-i.left c.loop-i.invariant
    c.tracked-running.result.now (omega arith) c.tracked-running.ensures c.in-Left.rest c.with_undone-ahead.result c.with_undone-ahead.ensures c.in-Left.ensures

pub loop-i-init : goal.loop-i-init
loop-i-init c =
    let front = front_parts c.args.front c.args.lane.now c.requires.front in
    let steps = lane_from c.args.queue no_ahead (take c.args.lane.now.passed c.args.lane.now.batches) c.args.front.batch (taken_first all_done c.args.lane.now.passed c.args.front.batch c.args.lane.now.batches front.before) in
    rw c.none-ahead.ensures (ap (λ steps. found steps c.args.k) steps)

pub returns : goal.returns
returns c =
    lane_through c.args.queue c.args.lane.now.passed c.args.lane.now.batches c.args.k c.loop-i.ahead c.loop-i.i c.loop-i.left c.loop-i.invariant (omega arith)

pub find_in_batch-requires-clause-stages : goal.find_in_batch-requires-clause-stages
find_in_batch-requires-clause-stages c =
    λ of_device. all_at batch_of_device c.args.lane.now.batches c.loop-i.i c.tracked-running.result.now (c.requires.stages of_device) c.tracked-running.ensures

pub returns-then-is_last : goal.returns-then-is_last
returns-then-is_last c =
    let both = and_parts c.args.of_device (is_closed c.with_undone-ahead.result) (sym c.is_last.ensures ∙ c.if-is_last.true) in
    let behind = lane_goes_on c.args.queue c.args.lane.now.passed c.args.lane.now.batches c.args.k c.loop-i.ahead c.loop-i.i c.loop-i.left c.loop-i.invariant
    c.tracked-running.result.now (omega arith) c.tracked-running.ensures c.in-Left.rest c.with_undone-ahead.result c.with_undone-ahead.ensures c.in-Left.ensures in
    lane_is_through c.args.queue c.args.lane.now.passed c.args.lane.now.batches c.args.k c.with_undone-ahead.result (c.loop-i.i + 1) c.in-Left.rest behind both.1 (c.requires.stages both.0)
