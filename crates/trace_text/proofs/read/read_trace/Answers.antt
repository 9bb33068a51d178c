use Rattle.trace_text.proofs.Grammar.{parts_are_written}
use Rattle.trace_text.proofs.read.read_trace.Goals as goal

pub invariant_of-result : goal.invariant_of-result
invariant_of-result c = record {
  written = ∣ parts_are_written c.args.bytes.now c.in-Ok.reading _ _ _ c.in-Ok.ensures
      c.in_ok-into_names.ensures c.into_seq.ensures c.into_seq-2.ensures ∣₁;
}
