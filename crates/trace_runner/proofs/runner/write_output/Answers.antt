-- What is written is the output, or that memory was refused.
use Rattle.std.proofs.Common.{◌∙◌, subst, refl, inl, inr}
use Rattle.std.specs.Option.{option_copied, option_map}
use Rattle.trace_text.specs.Seen.{seen}
use Rattle.run_text.specs.declared.status.Status.TheVariants as status
use Rattle.trace_runner.specs.Report.{Writes}
use Rattle.trace_runner.proofs.runner.write_output.Goals as goal

pub returns-in-Ok : goal.returns-in-Ok
returns-in-Ok g c = record {
  meant = c.args.outcome.now.status;
  same = inl refl;
  text = subst (λ t. Writes (g.K.Sink.held c.args.sink.now) (g.K.Sink.held c.written.new.sink) (g.K.Sink.faults c.args.sink.now, g.K.Sink.faults c.written.new.sink) t c.args.outcome.now.status c.written.result)
      (c.as_slice.ensures.value ∙ c.in-Ok.ensures) c.written.ensures;
}

pub returns-in-Err : goal.returns-in-Err
returns-in-Err g c = record {
  meant = status.Memory;
  same = inr refl;
  text = subst (λ t. Writes (g.K.Sink.held c.args.sink.now) (g.K.Sink.held c.written-in-Err.new.sink) (g.K.Sink.faults c.args.sink.now, g.K.Sink.faults c.written-in-Err.new.sink) t status.Memory c.written-in-Err.result)
      (c.out_of_memory_text.ensures (option_map seen (option_copied c.args.trace)) c.args.outcome.now) c.written-in-Err.ensures;
}
