use Rattle.std.proofs.Common.{arith, append_assoc}
use Rattle.run_text.proofs.Answered.{answered_more}
use Rattle.run_text.proofs.text.put_thread.Goals as goal

pub loop-event-preserved : goal.loop-event-preserved
loop-event-preserved c =
    let before = c.loop-event.invariant in
    let step = answered_more c.args.name.now c.args.thread c.loop-event.call c.in_ok-call.call c.args.history.now c.loop-event.event-index c.event-item.result
    c.loop-event-test.true c.event-item.is c.in_ok-call.ensures.next in
    (rw (c.in_ok-call.ensures.text, append_assoc, ← step) before.0, omega (arith, before.1, c.in_ok-call.ensures.small))
