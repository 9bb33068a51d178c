use Rattle.std.proofs.Common.{◌∙◌, sym, refl}
use Rattle.run_text.specs.Left.{is_busy}
use Rattle.run_text.proofs.Leaving.{kept_next, left_next}
use Rattle.run_text.proofs.left.busy_queues.Goals as goal
use Rattle.run_text.proofs.left.busy_queues.Goals.{then-is_busy+in_ok-number_at+in_ok-push, else-is_busy}

pub loop-queue-preserved : goal.loop-queue-preserved
loop-queue-preserved c = elim c.if-is_busy.branch [
  | then-is_busy+in_ok-number_at+in_ok-push w ↦
      kept_next (is_busy c.args.history.now) c.loop-queue.queue c.loop-queue.found c.if-is_busy.found c.loop-queue.invariant
      (sym c.is_busy.ensures ∙ w.if-is_busy.true) (rw (w.found-is, w.in_ok-push.ensures.ok, w.in_ok-number_at.ensures) refl)
  | else-is_busy w ↦ rw w.found-is
      (left_next (is_busy c.args.history.now) c.loop-queue.queue c.loop-queue.found c.loop-queue.invariant
      (sym c.is_busy.ensures ∙ w.if-is_busy.false))
]
