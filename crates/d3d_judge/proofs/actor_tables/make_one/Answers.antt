use Rattle.d3d_judge.proofs.ActorTables.{made_new, made_before}
use Rattle.d3d_judge.proofs.actor_tables.make_one.Goals as goal

pub returns-in_ok-made-clause-made : goal.returns-in_ok-made-clause-made
returns-in_ok-made-clause-made c = made_new c.args.words c.in_ok-made.made c.args.table.now c.if-is_none.ensures c.in_ok-made.ensures.zeros c.in_ok-made.ensures.room

pub returns-else-is_none-clause-made : goal.returns-else-is_none-clause-made
returns-else-is_none-clause-made c = made_before c.args.words c.args.table.now c.if-is_none.ensures
