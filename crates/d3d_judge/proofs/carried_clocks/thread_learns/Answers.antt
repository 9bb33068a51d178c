use Rattle.std.proofs.Common.{map, drop}
use Rattle.dx_base.specs.Each.{Each}
use Rattle.dx_base.proofs.Lists.{write_is_changed}
use Rattle.clocks.specs.Clocks.{joined}
use Rattle.d3d_judge.specs.Carried.{sufficient}
use Rattle.d3d_judge.specs.CarriedClocks.{update_of, SameSize}
use Rattle.d3d_judge.proofs.CarriedClocks.{each_lent}
use Rattle.d3d_judge.proofs.carried_clocks.thread_learns.Goals as goal

pub learn_sufficient-requires : goal.learn_sufficient-requires
learn_sufficient-requires c = each_lent (λ x. Each (λ u. SameSize x u.clock) (map update_of c.args.updates.now)) c.args.threads.now c.args.thread c.at_mut.result.now c.requires.thread c.at_mut.ensures.value c.requires.alike

pub returns : goal.returns
returns c = write_is_changed (λ x. joined x (sufficient c.args.wait.value (drop c.args.wait.since (map update_of c.args.updates.now)))) c.args.threads.now c.args.thread c.at_mut.result.now _ c.requires.thread c.at_mut.ensures.value c.learn_sufficient.ensures
