use Rattle.std.proofs.Common.{sym, subst}
use Rattle.d3d_judge.specs.Fed.{IsNext}
use Rattle.d3d_judge.specs.Prepared.{IsTaken}
use Rattle.d3d_judge.proofs.Next.{call_taken, thread_waits, queue_has}
use Rattle.d3d_judge.proofs.judge_parts.JudgeParts.take.Goals as goal

pub take_made_call-requires-clause-takes : goal.take_made_call-requires-clause-takes
take_made_call-requires-clause-takes c = call_taken c.args.world.now c.args.kept.now.fed.history c.args.self.now c.in-Call.thread c.in-Call.call c.in-Call._reply c.requires.opened (subst (IsNext c.args.world.now c.args.kept.now.fed.history) c.in-Call.is c.requires.next)

pub wake-requires-clause-thread : goal.wake-requires-clause-thread
wake-requires-clause-thread c = thread_waits c.args.world.now c.args.kept.now.fed.history c.in-Awake.thread (subst (IsNext c.args.world.now c.args.kept.now.fed.history) c.in-Awake.is c.requires.next)

pub take_made_queue-requires-clause-takes : goal.take_made_queue-requires-clause-takes
take_made_queue-requires-clause-takes c = record { opened = c.requires.opened; queue = queue_has c.args.world.now c.args.kept.now.fed.history c.in-Queue.queue (subst (IsNext c.args.world.now c.args.kept.now.fed.history) c.in-Queue.is c.requires.next) }

pub returns-in-Call : goal.returns-in-Call
returns-in-Call c = subst (λ y. IsTaken c.args.world.now c.args.kept.now.fed.history y c.take_made_call.new.self c.take_made_call.result) (sym c.in-Call.is) (c.take_made_call.ensures c.in-Call._reply)
