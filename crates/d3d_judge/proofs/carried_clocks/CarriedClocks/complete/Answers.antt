use Rattle.std.proofs.Common.{◌<◌, sym, subst, length}
use Rattle.d3d_judge.proofs.CarriedClocks.{oldest_sized, alike_queues, none_completes}
use Rattle.d3d_judge.proofs.carried_clocks.CarriedClocks.complete.Goals as goal

pub complete_work-requires-clause-alike : goal.complete_work-requires-clause-alike
complete_work-requires-clause-alike c =
    alike_queues (length c.args.self.now.queues) (length c.args.self.now.threads) (length c.args.self.now.updates) c.args.self.now c.args.queue c.in-Some.work c.requires.sized (sym c.in-Some.ensures.first)

pub complete_work-requires-clause-numbers : goal.complete_work-requires-clause-numbers
complete_work-requires-clause-numbers c =
    subst (λ k. c.args.queue < k)
    (sym (oldest_sized (length c.args.self.now.queues) (length c.args.self.now.threads) c.args.self.now.pending c.args.queue c.in-Some.work c.requires.sized.of_pending (sym c.in-Some.ensures.first)).queues_are)
    c.requires.queue

pub returns-in-None-clause-clocks : goal.returns-in-None-clause-clocks
returns-in-None-clause-clocks c = none_completes c.args.self.now c.args.queue c.take_work.new.pending c.in-None.ensures.oldest c.in-None.ensures.rest
