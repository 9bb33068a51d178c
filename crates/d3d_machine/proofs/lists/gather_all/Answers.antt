use Rattle.std.proofs.Common.{sym}
use Rattle.d3d_machine.proofs.Gathered.{more_commands}
use Rattle.d3d_machine.proofs.lists.gather_all.Goals as goal

pub loop-list-preserved : goal.loop-list-preserved
loop-list-preserved c =
    rw (c.in_ok-gather_one.ensures, c.loop-list.invariant)
    (sym (more_commands c.args.lists.now c.args.executed.now c.loop-list.list-index (record { 0 = 0 }) c.loop-list-test.true))
