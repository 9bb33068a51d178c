use Rattle.d3d_judge.specs.CarriedClocks.{SameSize}
use Rattle.dx_base.proofs.Lists.{write_is_changed}
use Rattle.d3d_judge.proofs.CarriedClocks.{each_lent}
use Rattle.d3d_judge.proofs.carried_clocks.set_clock.Goals as goal

pub become_equal-requires-clause-queues : goal.become_equal-requires-clause-queues
become_equal-requires-clause-queues c = (each_lent (λ x. SameSize x c.args.clock.now) c.args.queues.now c.args.queue c.at_mut.result.now c.requires.queue c.at_mut.ensures.value c.requires.alike).queues_are

pub become_equal-requires-clause-threads : goal.become_equal-requires-clause-threads
become_equal-requires-clause-threads c = (each_lent (λ x. SameSize x c.args.clock.now) c.args.queues.now c.args.queue c.at_mut.result.now c.requires.queue c.at_mut.ensures.value c.requires.alike).threads_are

pub returns : goal.returns
returns c = write_is_changed (λ _. c.args.clock.now) c.args.queues.now c.args.queue c.at_mut.result.now _ c.requires.queue c.at_mut.ensures.value c.become_equal.ensures
