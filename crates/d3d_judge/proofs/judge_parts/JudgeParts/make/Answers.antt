use Rattle.std.proofs.Common.{subst}
use Rattle.d3d_judge.specs.Fed.{IsNext}
use Rattle.d3d_judge.proofs.Next.{call_taken, queue_has}
use Rattle.d3d_judge.proofs.judge_parts.JudgeParts.make.Goals as goal

pub make_for_call-requires : goal.make_for_call-requires
make_for_call-requires c = call_taken c.args.world.now c.args.kept.now.fed.history c.args.self.now c.in-Call.thread c.in-Call.call c.in-Call._reply c.requires.opened (subst (IsNext c.args.world.now c.args.kept.now.fed.history) c.in-Call.is c.requires.next)

pub make_for_queue-requires : goal.make_for_queue-requires
make_for_queue-requires c = record { opened = c.requires.opened; queue = queue_has c.args.world.now c.args.kept.now.fed.history c.in-Queue.queue (subst (IsNext c.args.world.now c.args.kept.now.fed.history) c.in-Queue.is c.requires.next) }
