-- Each turn sums up one command, or a block of them.
use Rattle.std.proofs.Common.{◌<◌, ◌∙◌, length, sym, ap, arith}
use Rattle.vk_port.specs.Ahead.{summary}
use Rattle.vk_port.proofs.LanePlaces.{left_from}
use Rattle.vk_port.proofs.Summing.{summary_skip, summary_turn, summary_end}
use Rattle.vk_port.proofs.ahead.Ahead.with_undone.Goals as goal

pub overflow_add-i : goal.overflow_add-i
overflow_add-i c = omega (arith, c.in-Some.ensures.fits)

pub loop-i-preserved-in-Some : goal.loop-i-preserved-in-Some
loop-i-preserved-in-Some c = c.loop-i.invariant ∙ c.in-Some.ensures.sum

pub loop-i-preserved-then-is_done : goal.loop-i-preserved-then-is_done
loop-i-preserved-then-is_done c =
    let within : c.loop-i.i < length c.args.running.now.batch.commands = omega arith in
    c.loop-i.invariant ∙ summary_skip c.loop-i.ahead c.args.running.now.batch.commands c.args.running.now.done c.loop-i.i c.is_done.result within c.is_done.ensures c.if-is_done.true

pub loop-i-preserved : goal.loop-i-preserved
loop-i-preserved c =
    rw c.with-ahead.ensures (c.loop-i.invariant ∙ summary_turn c.loop-i.ahead c.args.running.now.batch.commands c.args.running.now.done c.loop-i.i c.is_done.result c.command-command.result c.command-command.ensures c.is_done.ensures c.if-is_done.false)

pub returns : goal.returns
returns c = sym (c.loop-i.invariant ∙ summary_end c.loop-i.ahead c.args.running.now.batch.commands c.args.running.now.done c.loop-i.i (omega arith))

pub loop-i-init : goal.loop-i-init
loop-i-init c = ap (summary c.args.self) (left_from c.args.running.now.batch.commands c.args.running.now.done c.args.from c.requires)
