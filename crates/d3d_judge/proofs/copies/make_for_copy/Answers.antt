use Rattle.std.proofs.Common.{subst}
use Rattle.d3d_judge.specs.WordTouches.{HasTablesOfQueue}
use Rattle.d3d_judge.proofs.CarriedClocks.{on_ok}
use Rattle.d3d_judge.proofs.CopyReady.{from_inside, to_inside}
use Rattle.d3d_judge.proofs.WordTouches.{tables_twice}
use Rattle.d3d_judge.proofs.copies.make_for_copy.Goals as goal

pub returns-clause-ready : goal.returns-clause-ready
returns-clause-ready c =
    on_ok c.make_for_words-2.result
    (λ tables. record {
      from = from_inside c.args.world.now c.args.what c.requires.inside;
      to = to_inside c.args.world.now c.args.what c.requires.inside;
      from_tables = subst (HasTablesOfQueue c.make_for_words-2.new.touches.resources c.args.queue) c.read_words.ensures
          (c.make_for_words-2.ensures.kept.queues c.args.queue c.read_words.result c.in_ok-make_for_words.ensures.tables);
      to_tables = subst (HasTablesOfQueue c.make_for_words-2.new.touches.resources c.args.queue) c.written_words.ensures tables;
    })
    c.make_for_words-2.ensures.tables

pub returns-clause-ties : goal.returns-clause-ties
returns-clause-ties c made h = c.make_for_words-2.ensures.ties made (c.in_ok-make_for_words.ensures.ties made h)

pub returns-clause-kept : goal.returns-clause-kept
returns-clause-kept c = tables_twice _ _ _ c.in_ok-make_for_words.ensures.kept c.make_for_words-2.ensures.kept
