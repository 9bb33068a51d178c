use Rattle.std.proofs.Common.{append_assoc, refl}
use Rattle.trace_lines.proofs.Knowing.{pairs_more, pairs_end}
use Rattle.trace_text.proofs.Printing.{threads_text, thread_text, thread_pairs}
use Rattle.trace_text.proofs.printer.put_threads.Goals as goal

pub loop-at-preserved : goal.loop-at-preserved
loop-at-preserved c =
    pairs_more (threads_text c.args.known.now) (thread_text c.args.known.now) (thread_pairs c.args.known.now)
    c.args.names.now c.args.scripts.now c.loop-at.at _ c.index-names-at.result c.index-scripts-at.result _ _ _ c.min-at-end.ensures c.loop-at-test.true
    c.index-names-at.is
    (rw (← c.index-scripts-at.is, c.in_ok-put_calls.ensures, c.as_slice.ensures, c.in_ok-put_start.ensures, append_assoc) refl) c.loop-at.invariant

pub returns : goal.returns
returns c =
    pairs_end (threads_text c.args.known.now) (thread_text c.args.known.now) (thread_pairs c.args.known.now)
    c.args.names.now c.args.scripts.now c.loop-at.at _ _ _ c.min-at-end.ensures c.loop-at-test.false c.loop-at.invariant
