use Rattle.std.proofs.Common.{refl}
use Rattle.dx_base.proofs.Lists.{write_is_changed}
use Rattle.d3d_judge.proofs.CarriedClocks.{got}
use Rattle.d3d_judge.proofs.WordTouches.{threads_made}
use Rattle.d3d_judge.proofs.word_touches.make_for_call_in.Goals as goal

pub returns-clause-kept : goal.returns-clause-kept
returns-clause-kept c = record {
  before = c.at_mut.result.now;
  after = c.make_for_call.new.self;
  found = got c.args.subs.now c.args.access.sub c.at_mut.result.now c.requires.sub c.at_mut.ensures.value;
  set = write_is_changed (λ _. c.make_for_call.new.self) c.args.subs.now c.args.access.sub c.at_mut.result.now c.make_for_call.new.self c.requires.sub c.at_mut.ensures.value refl;
  ties = c.make_for_call.ensures.ties;
  shape = c.make_for_call.ensures.shape;
  tables = c.make_for_call.ensures.tables;
}

pub returns-clause-made : goal.returns-clause-made
returns-clause-made c = threads_made c.args.words c.args.thread c.args.access.sub c.args.subs.now c.at_mut.result.now c.make_for_call.new.self c.make_for_call.result c.requires.sub c.at_mut.ensures.value c.make_for_call.ensures.writes c.make_for_call.ensures.touches
