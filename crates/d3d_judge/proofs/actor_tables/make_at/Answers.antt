use Rattle.d3d_judge.proofs.CarriedClocks.{on_ok}
use Rattle.d3d_judge.proofs.ActorTables.{made_at}
use Rattle.d3d_judge.proofs.actor_tables.make_at.Goals as goal

pub returns-clause-made : goal.returns-clause-made
returns-clause-made c = on_ok c.make_one.result (made_at c.args.words c.args.tables.now c.args.at c.at_mut.result.now c.make_one.new.table c.requires.actor c.at_mut.ensures.value) c.make_one.ensures.made
