use Rattle.std.proofs.Common.{◌∙◌, sym, refl}
use Rattle.run_text.specs.Left.{is_unfinished_of}
use Rattle.run_text.proofs.Leaving.{kept_next, left_next, left_script}
use Rattle.run_text.proofs.left.unfinished_threads.Goals as goal
use Rattle.run_text.proofs.left.unfinished_threads.Goals.{then-is_left+in_ok-number_at+in_ok-push, else-is_left}

pub loop-thread-preserved : goal.loop-thread-preserved
loop-thread-preserved c =
    let tells = left_script c.args.scripts.now c.args.history.now c.loop-thread.thread c.index-scripts-thread.result c.len.result c.is_left.result
    c.loop-thread-test.true c.index-scripts-thread.is c.len.ensures c.is_left.ensures in
    elim c.if-is_left.branch [
      | then-is_left+in_ok-number_at+in_ok-push w ↦
          kept_next (is_unfinished_of c.args.scripts.now c.args.history.now) c.loop-thread.thread c.loop-thread.found c.if-is_left.found
          c.loop-thread.invariant (sym tells ∙ w.if-is_left.true) (rw (w.found-is, w.in_ok-push.ensures.ok, w.in_ok-number_at.ensures) refl)
      | else-is_left w ↦ rw w.found-is
          (left_next (is_unfinished_of c.args.scripts.now c.args.history.now) c.loop-thread.thread c.loop-thread.found
          c.loop-thread.invariant (sym tells ∙ w.if-is_left.false))
    ]
