use Rattle.std.proofs.Common.{◌∙◌, ap}
use Rattle.clocks.specs.Clocks.{joined}
use Rattle.d3d_judge.proofs.CarriedClocks.{alike_lent, clock_is}
use Rattle.d3d_judge.proofs.carried_clocks.learn.Goals as goal

pub join-requires-clause-queues : goal.join-requires-clause-queues
join-requires-clause-queues c = (alike_lent c.args.clock.now c.args.updates.now c.args.at _ c.requires.place c.requires.alike).queues_are

pub join-requires-clause-threads : goal.join-requires-clause-threads
join-requires-clause-threads c = (alike_lent c.args.clock.now c.args.updates.now c.args.at _ c.requires.place c.requires.alike).threads_are

pub returns : goal.returns
returns c = c.join.ensures ∙ ap (λ y. joined c.args.clock.now y) (clock_is c.args.updates.now c.args.at _ c.requires.place)
