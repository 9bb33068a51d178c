use Rattle.d3d_judge.proofs.SubTables.{thread_ties, thread_shape, thread_tables_stay}
use Rattle.d3d_judge.proofs.sub_tables.SubTables.make_for_call.Goals as goal

pub returns-clause-ties : goal.returns-clause-ties
returns-clause-ties c = thread_ties c.args.self.now c.args.words c.args.thread c.make_at.new.tables c.make_at-2.new.tables c.make_at-2.result c.requires.written c.requires.touched c.in_ok-make_at.ensures.made c.make_at-2.ensures.made c.make_at-2.ensures.same

pub returns-clause-shape : goal.returns-clause-shape
returns-clause-shape c = thread_shape c.args.self.now c.args.words c.args.thread c.make_at.new.tables c.make_at-2.new.tables c.make_at-2.result c.in_ok-make_at.ensures.made c.make_at-2.ensures.made c.make_at-2.ensures.same

pub returns-clause-tables : goal.returns-clause-tables
returns-clause-tables c = thread_tables_stay c.args.self.now c.args.words c.args.thread c.make_at.new.tables c.make_at-2.new.tables c.make_at-2.result c.in_ok-make_at.ensures.made c.make_at-2.ensures.made c.make_at-2.ensures.same
