use Rattle.d3d_judge.proofs.Tables.{tie, queue_tables_tell, thread_tables_tell}
use Rattle.d3d_judge.proofs.laws.tables_tell_who_is_unknown.Goals as goal

pub returns : goal.returns
returns c = record { of_any = tie; of_queues = queue_tables_tell; of_threads = thread_tables_tell }
