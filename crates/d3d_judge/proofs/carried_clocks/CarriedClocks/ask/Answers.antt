use Rattle.std.proofs.Common.{◌≡◌, ◌<◌, map, sym, subst, length}
use Rattle.dx_base.specs.Lists.{changed_at}
use Rattle.clocks.specs.Clocks.{joined}
use Rattle.d3d_judge.specs.Carried.{latest}
use Rattle.d3d_judge.specs.CarriedClocks.{update_of, AreAlike}
use Rattle.d3d_judge.proofs.CarriedClocks.{asked_is, alike_at, called_length, sized_after}
use Rattle.d3d_judge.proofs.carried_clocks.CarriedClocks.ask.Goals as goal

pub thread_learns_latest-requires-clause-thread : goal.thread_learns_latest-requires-clause-thread
thread_learns_latest-requires-clause-thread c = subst (λ n. c.args.thread < n) (sym (called_length c.args.self.now c.call.new.self c.args.thread c.call.ensures)) c.requires.thread

pub thread_learns_latest-requires-clause-alike : goal.thread_learns_latest-requires-clause-alike
thread_learns_latest-requires-clause-alike c =
    subst (λ y. AreAlike (map update_of y) c.call.new.self.threads) (sym c.as_slice.ensures)
    (alike_at (length c.args.self.now.queues) (length c.args.self.now.threads) (length c.args.self.now.updates) c.call.new.self c.args.fence c.at-updates.result.now
    (sized_after (length c.args.self.now.queues) (length c.args.self.now.threads) (length c.args.self.now.updates) c.args.self.now c.call.new.self c.args.thread c.call.ensures c.requires.thread c.requires.sized) c.at-updates.ensures)

pub returns : goal.returns
returns c = asked_is c.args.self.now c.call.new.self c.args.thread c.args.fence c.at-updates.result.now c.thread_learns_latest.new.threads c.call.ensures c.at-updates.ensures
    (subst (λ y. c.thread_learns_latest.new.threads ≡ changed_at (λ d. joined d (latest (map update_of y))) c.args.thread c.call.new.self.threads) c.as_slice.ensures c.thread_learns_latest.ensures)
