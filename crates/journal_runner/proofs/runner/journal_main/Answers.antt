-- What is answered is what was meant, or that it could not be written or had no memory.
use Rattle.std.proofs.Common.{map, string_bytes}
use Rattle.journal_runner.proofs.Answering.{completed, reported, usage_said}
use Rattle.journal_runner.proofs.runner.journal_main.Goals as goal

pub returns-clause-report : goal.returns-clause-report
returns-clause-report g c = reported (record {
  words = map string_bytes c.args.words.now;
  told = g.S.Source.left c.args.source.now;
  source = (g.S.Source.faults c.args.source.now, g.S.Source.faults c.answer_of-answer.new.source);
}) (record {
  before = g.K.Sink.held c.args.sink.now;
  after = g.K.Sink.held c.write_answer.new.sink;
  faults = (g.K.Sink.faults c.args.sink.now, g.K.Sink.faults c.write_answer.new.sink);
}) c.answer_of-answer.result c.write_answer.result c.answer_of-answer.ensures.says c.write_answer.ensures

pub returns-clause-usage : goal.returns-clause-usage
returns-clause-usage g c = λ bad. usage_said (record {
  words = map string_bytes c.args.words.now;
  told = g.S.Source.left c.args.source.now;
  source = (g.S.Source.faults c.args.source.now, g.S.Source.faults c.answer_of-answer.new.source);
}) (record {
  before = g.K.Sink.held c.args.sink.now;
  after = g.K.Sink.held c.write_answer.new.sink;
  faults = (g.K.Sink.faults c.args.sink.now, g.K.Sink.faults c.write_answer.new.sink);
}) c.answer_of-answer.result c.write_answer.result bad c.answer_of-answer.ensures.says c.write_answer.ensures

pub returns-clause-complete : goal.returns-clause-complete
returns-clause-complete g c = λ good reads writes. completed (record {
  words = map string_bytes c.args.words.now;
  told = g.S.Source.left c.args.source.now;
  source = (g.S.Source.faults c.args.source.now, g.S.Source.faults c.answer_of-answer.new.source);
}) (record {
  before = g.K.Sink.held c.args.sink.now;
  after = g.K.Sink.held c.write_answer.new.sink;
  faults = (g.K.Sink.faults c.args.sink.now, g.K.Sink.faults c.write_answer.new.sink);
}) c.answer_of-answer.result c.write_answer.result good reads writes c.answer_of-answer.ensures.says c.write_answer.ensures
