-- Each turn searches one command that is not done, or goes behind a block.
use Rattle.std.proofs.Common.{◌≡◌, ◌<◌, ◌+◌, ◌∙◌, length, arith, sym, ap}
use Rattle.std.proofs.lemmas.Bool.{and_parts}
use Rattle.vk_port.specs.DeviceStages.{is_closed}
use Rattle.vk_port.specs.Found.{found}
use Rattle.vk_port.proofs.LanePlaces.{steps_from}
use Rattle.vk_port.proofs.Searching.{batch_ends, batch_goes_on, batch_is_through}
use Rattle.vk_port.proofs.Summing.{steps_skip, steps_end}
use Rattle.vk_port.proofs.find.find_in_batch.Goals as goal

pub loop-i-preserved-then-is_done : goal.loop-i-preserved-then-is_done
loop-i-preserved-then-is_done c =
    let within : c.loop-i.i < length c.args.running.now.batch.commands = omega arith in
    let skip = steps_skip c.args.queue c.args.running.now.batch.number (c.loop-i.i + 1) c.loop-i.ahead c.args.running.now.batch.commands c.args.running.now.done c.loop-i.i c.is_done.result within c.is_done.ensures c.if-is_done.true in
    c.loop-i.invariant ∙ ap (λ steps. found steps c.loop-i.left) skip

pub overflow_add-i : goal.overflow_add-i
overflow_add-i c = omega (arith, c.in-Some.ensures.fits)

pub loop-i-preserved-in-Some : goal.loop-i-preserved-in-Some
loop-i-preserved-in-Some c =
    let place : c.loop-i.i + 1 + 32 ≡ c.loop-i.i + 32 + 1 = omega arith in
    c.loop-i.invariant ∙ (rw place at (c.in-Some.ensures.steps c.args.queue c.args.running.now.batch.number (c.loop-i.i + 1)))

pub returns-in-At : goal.returns-in-At
returns-in-At c =
    batch_ends c.args.queue c.args.running.now.batch.number (c.loop-i.i + 1) c.loop-i.ahead c.args.running.now.batch.commands c.args.running.now.done c.loop-i.i
    c.is_done.result c.command-command.result c.command-command.ensures c.is_done.ensures c.if-is_done.false _ c.loop-i.left c.loop-i.invariant c.lets.result c.lets.ensures c.in-At.step (rw c.number.ensures at c.in-At.ensures)

pub loop-i-preserved : goal.loop-i-preserved
loop-i-preserved c =
    batch_goes_on c.args.queue c.args.running.now.batch.number (c.loop-i.i + 1) c.loop-i.ahead c.args.running.now.batch.commands c.args.running.now.done c.loop-i.i
    c.is_done.result c.command-command.result c.command-command.ensures c.is_done.ensures c.if-is_done.false _ c.loop-i.left c.loop-i.invariant c.lets.result c.lets.ensures c.in-Left.rest
    c.with-ahead.result c.with-ahead.ensures (rw c.number.ensures at c.in-Left.ensures)

pub returns : goal.returns
returns c =
    let end = steps_end c.args.queue c.args.running.now.batch.number (c.loop-i.i + 1) c.loop-i.ahead c.args.running.now.batch.commands c.args.running.now.done c.loop-i.i (omega arith) in
    sym (c.loop-i.invariant ∙ ap (λ steps. found steps c.loop-i.left) end)

pub returns-then-is_last : goal.returns-then-is_last
returns-then-is_last c =
    let both = and_parts c.args.of_device (is_closed c.with-ahead.result) (sym c.is_last.ensures ∙ c.if-is_last.true) in
    batch_is_through c.args.queue c.args.running.now.batch.number (c.loop-i.i + 1) c.loop-i.ahead c.args.running.now.batch.commands c.args.running.now.done c.loop-i.i
    c.is_done.result c.command-command.result c.command-command.ensures c.is_done.ensures c.if-is_done.false _ c.loop-i.left c.loop-i.invariant c.lets.result c.lets.ensures c.in-Left.rest
    c.with-ahead.result c.with-ahead.ensures (rw c.number.ensures at c.in-Left.ensures) both.1 (c.requires.stages both.0)

pub loop-i-init : goal.loop-i-init
loop-i-init c =
    let place : 1 + c.args.from ≡ c.args.from + 1 = omega arith in
    let behind = steps_from c.args.queue c.args.running.now.batch.number 1 c.args.before c.args.running.now.batch.commands c.args.running.now.done c.args.from c.requires.front in
    ap (λ steps. found steps c.args.k) (rw place at behind)
