use Rattle.std.proofs.Common.{◌≡◌, map, drop, sym, subst, length}
use Rattle.dx_base.specs.Lists.{changed_at}
use Rattle.clocks.specs.Clocks.{joined}
use Rattle.d3d_judge.specs.Carried.{sufficient}
use Rattle.d3d_judge.specs.CarriedClocks.{update_of, AreAlike}
use Rattle.d3d_judge.proofs.CarriedClocks.{alike_at, woken_is, not_woken}
use Rattle.d3d_judge.proofs.carried_clocks.CarriedClocks.wake.Goals as goal

pub thread_learns-requires-clause-alike : goal.thread_learns-requires-clause-alike
thread_learns-requires-clause-alike c =
    subst (λ y. AreAlike (map update_of y) c.args.self.now.threads) (sym c.as_slice.ensures)
    (alike_at (length c.args.self.now.queues) (length c.args.self.now.threads) (length c.args.self.now.updates) c.args.self.now c.at-wait.result.now.fence c.in-Some.updates.now c.requires.sized (sym c.in-Some.ensures))

pub returns-in-None : goal.returns-in-None
returns-in-None c = not_woken c.args.self.now c.args.thread c.at-wait.result.now c.at-wait.ensures (sym c.in-None.ensures)

pub returns-in-Some : goal.returns-in-Some
returns-in-Some c = woken_is c.args.self.now c.args.thread c.at-wait.result.now c.in-Some.updates.now c.thread_learns.new.threads c.at-wait.ensures (sym c.in-Some.ensures)
    (subst (λ y. c.thread_learns.new.threads ≡ changed_at (λ d. joined d (sufficient c.at-wait.result.now.value (drop c.at-wait.result.now.since (map update_of y)))) c.args.thread c.args.self.now.threads) c.as_slice.ensures c.thread_learns.ensures)
