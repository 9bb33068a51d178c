use Rattle.d3d_judge.proofs.SubTables.{queue_ties, queue_shape, queue_tables_stay}
use Rattle.d3d_judge.proofs.sub_tables.SubTables.make_for_scope.Goals as goal

pub returns-clause-ties : goal.returns-clause-ties
returns-clause-ties c = queue_ties c.args.self.now c.args.words c.args.queue c.make_at.new.tables c.make_at-2.new.tables c.make_at-2.result c.requires.written c.requires.touched c.in_ok-make_at.ensures.made c.make_at-2.ensures.made c.make_at-2.ensures.same

pub returns-clause-shape : goal.returns-clause-shape
returns-clause-shape c = queue_shape c.args.self.now c.args.words c.args.queue c.make_at.new.tables c.make_at-2.new.tables c.make_at-2.result c.in_ok-make_at.ensures.made c.make_at-2.ensures.made c.make_at-2.ensures.same

pub returns-clause-tables : goal.returns-clause-tables
returns-clause-tables c = queue_tables_stay c.args.self.now c.args.words c.args.queue c.make_at.new.tables c.make_at-2.new.tables c.make_at-2.result c.in_ok-make_at.ensures.made c.make_at-2.ensures.made c.make_at-2.ensures.same
