-- The queue at the place, and those behind it.
use Rattle.std.proofs.Common.{◌≡◌, ◌∙◌, sym, true, false, length, arith}
use Rattle.vk_sync_rules.specs.Machines.{is_shown_in}
use Rattle.vk_sync_rules.proofs.HostSteps.{queue_first, any_stop, any_go}
use Rattle.vk_sync_rules.proofs.host.is_shown.Goals as goal

pub returns-then-is_shown_at : goal.returns-then-is_shown_at
returns-then-is_shown_at c =
    let holds : c.is_shown_at.result ≡ true = grind arith in
    any_stop _ _ _ _ c.loop-queue.invariant
    (queue_first (is_shown_in c.args.queues.now c.args.write.now) (length c.args.queues.now) c.loop-queue.queue c.loop-queue-test.true)
    (sym c.is_shown_at.ensures ∙ holds)

pub loop-queue-preserved : goal.loop-queue-preserved
loop-queue-preserved c =
    let fails : c.is_shown_at.result ≡ false = grind arith in
    any_go _ _ _ _ c.loop-queue.invariant
    (queue_first (is_shown_in c.args.queues.now c.args.write.now) (length c.args.queues.now) c.loop-queue.queue c.loop-queue-test.true)
    (sym c.is_shown_at.ensures ∙ fails)
