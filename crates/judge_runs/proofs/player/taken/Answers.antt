use Rattle.judge_runs.proofs.Played.{thread_result}
use Rattle.judge_runs.proofs.player.taken.Goals as goal

pub returns-else-thread-len-clause-event : goal.returns-else-thread-len-clause-event
returns-else-thread-len-clause-event c = thread_result c.args.world.now c.args.machine.now _ _ c.step_thread.result c.step_thread.ensures.event c.step_thread.ensures.state
