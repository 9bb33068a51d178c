-- The report says of the run what the status says whose text was written.
use Rattle.std.proofs.Common.{◌∙◌, subst, refl, map}
use Rattle.std.specs.Option.{option_map}
use Rattle.std.specs.Prelude.{string_bytes}
use Rattle.trace_text.specs.Seen.{seen}
use Rattle.trace_runner.specs.Report.{IsWritten, IsUnrun, left_by}
use Rattle.trace_runner.proofs.Concluding.{reported, refused_of, unrun_meant, complete_of}
use Rattle.trace_runner.proofs.runner.simulate.Goals as goal

pub returns-clause-report : goal.returns-clause-report
returns-clause-report g c =
    rw (c.report_of.ensures.device, c.report_of.ensures.choices, c.report_of.ensures.taken, c.report_of.ensures.history, c.report_of.ensures.status, c.report_of.ensures.verdict)
    (reported (record {
      words = map string_bytes c.args.words.now;
      told = g.S.Source.left c.args.source.now;
      source = (g.S.Source.faults c.args.source.now, g.S.Source.faults c.ran-ended.new.source);
    }) (g.K.Sink.faults c.args.sink.now, g.K.Sink.faults c.write_output-status.new.sink) (g.K.Sink.held c.args.sink.now) (g.K.Sink.held c.write_output-status.new.sink) (option_map seen c.ran-ended.result.trace)
    (left_by c.ran-ended.result.log c.ran-ended.result.outcome.history c.ran-ended.result.outcome.fences (g.D.VkDevice.view_of c.args.device) (g.D.VkDevice.view_of c.ran-ended.result.device)) c.ran-ended.result.outcome c.write_output-status.result
    c.ran-ended.ensures.says refl refl c.ran-ended.ensures.shown c.ran-ended.ensures.refused
    (subst (λ t. IsWritten (g.K.Sink.faults c.args.sink.now, g.K.Sink.faults c.write_output-status.new.sink) (g.K.Sink.held c.args.sink.now) (g.K.Sink.held c.write_output-status.new.sink) (option_map seen t) c.ran-ended.result.outcome c.write_output-status.result) c.as_ref.ensures.value c.write_output-status.ensures))

pub returns-clause-refused : goal.returns-clause-refused
returns-clause-refused g c = refused_of (record {
  words = map string_bytes c.args.words.now;
  told = g.S.Source.left c.args.source.now;
  source = (g.S.Source.faults c.args.source.now, g.S.Source.faults c.ran-ended.new.source);
}) (g.K.Sink.faults c.args.sink.now, g.K.Sink.faults c.write_output-status.new.sink) (g.K.Sink.held c.args.sink.now) (g.K.Sink.held c.write_output-status.new.sink) _ c.report_of.result.status (returns-clause-report g c)

pub returns-clause-unrun : goal.returns-clause-unrun
returns-clause-unrun g c = λ unrun.
    c.report_of.ensures.device ∙ c.ran-ended.ensures.unrun
    (unrun_meant (g.K.Sink.faults c.args.sink.now, g.K.Sink.faults c.write_output-status.new.sink) (g.K.Sink.held c.args.sink.now) (g.K.Sink.held c.write_output-status.new.sink) _
    c.ran-ended.result.outcome c.write_output-status.result c.write_output-status.ensures (subst IsUnrun c.report_of.ensures.status unrun))

pub returns-clause-complete : goal.returns-clause-complete
returns-clause-complete g c = λ given some none.
    complete_of (record {
      words = map string_bytes c.args.words.now;
      told = g.S.Source.left c.args.source.now;
      source = (g.S.Source.faults c.args.source.now, g.S.Source.faults c.ran-ended.new.source);
    }) (g.K.Sink.faults c.args.sink.now, g.K.Sink.faults c.write_output-status.new.sink) (g.K.Sink.held c.args.sink.now) (g.K.Sink.held c.write_output-status.new.sink) _ c.report_of.result.status
    (returns-clause-report g c) given some none
