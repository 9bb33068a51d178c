use Rattle.std.proofs.Common.{arith}
use Rattle.std.proofs.lemmas.List.{drop_more}
use Rattle.barrier_lowering.proofs.Underway.{goes_by, ends, recorded_at}
use Rattle.barrier_lowering.proofs.lowering.lower.Goals as goal

pub loop-command-preserved : goal.loop-command-preserved
loop-command-preserved c =
    goes_by
    c.args.resources.now
    c.args.commands.now
    c.loop-command.command-index
    c.loop-command.changes
    c.add_change.new.changes
    c.loop-command.lowered
    c.push.new.self
    c.placed-placed.result
    _
    c.loop-command.invariant
    (drop_more c.args.commands.now c.loop-command.command-index _ c.loop-command-test.true)
    (recorded_at c.args.resources.now c.args.commands.now c.loop-command.command-index _ c.loop-command-test.true c.requires.recorded)
    c.placed-placed.ensures
    c.in_ok-add_change.ensures
    c.in_ok-push.ensures.ok

pub returns : goal.returns
returns c =
    ends c.args.resources.now c.args.commands.now c.loop-command.command-index c.loop-command.changes c.loop-command.lowered c.loop-command.invariant
    (omega (arith, c.loop-command-test.false))
