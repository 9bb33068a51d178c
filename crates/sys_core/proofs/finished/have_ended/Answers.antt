-- A turn passes a thread that has ended, and stops at one that has not.
use Rattle.std.proofs.Common.{◌<◌, ◌∙◌, sym, arith, length}
use Rattle.sys_core.specs.Finished.{has_ended_at}
use Rattle.sys_core.proofs.Finishing.{all_on, all_stops}
use Rattle.sys_core.proofs.finished.have_ended.Goals as goal

pub returns-then-not-has_ended : goal.returns-then-not-has_ended
returns-then-not-has_ended c =
    let less : c.loop-thread.thread < length c.args.world.now.scripts = omega (arith, c.loop-thread-test.true, c.len-thread-end.ensures) in
    all_stops (has_ended_at c.args.world.now c.args.parts.now.seats) (length c.args.world.now.scripts) c.loop-thread.thread less
    (sym c.has_ended.ensures ∙ c.if-not-has_ended.true) c.loop-thread.invariant

pub loop-thread-preserved : goal.loop-thread-preserved
loop-thread-preserved c =
    let less : c.loop-thread.thread < length c.args.world.now.scripts = omega (arith, c.loop-thread-test.true, c.len-thread-end.ensures) in
    all_on (has_ended_at c.args.world.now c.args.parts.now.seats) (length c.args.world.now.scripts) c.loop-thread.thread less
    (sym c.has_ended.ensures ∙ c.if-not-has_ended.false) c.loop-thread.invariant
