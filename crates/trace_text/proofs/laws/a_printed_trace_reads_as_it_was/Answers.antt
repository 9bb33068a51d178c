use Rattle.trace_text.proofs.SoundWritten.{prints_back, trace_prints_back}
use Rattle.trace_text.proofs.laws.a_printed_trace_reads_as_it_was.Goals as goal

pub returns : goal.returns
returns c = record { lines = prints_back; traces = trace_prints_back }
