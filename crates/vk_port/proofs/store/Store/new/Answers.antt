-- There is no command at first, and no step.
use Rattle.std.proofs.Common.{refl, replicate}
use Rattle.vk_port.proofs.DeviceStages.{kept_at_first}
use Rattle.vk_port.proofs.LanePlaces.{first_fronts_are}
use Rattle.vk_port.proofs.ReadySteps.{none_ready}
use Rattle.vk_port.proofs.ValidLanes.{lanes_at_first}
use Rattle.vk_port.proofs.store.Store.new.Goals as goal

pub invariant_of-result-clause-known : goal.invariant_of-result-clause-known
invariant_of-result-clause-known c = λ _. rw (c.in_ok-new.ensures.lanes, c.in_ok-first_lanes.ensures) (kept_at_first c.args.plan.now.queues)

pub invariant_of-result-clause-done : goal.invariant_of-result-clause-done
invariant_of-result-clause-done c = rw (c.in_ok-first_fronts.ensures, c.in_ok-new.ensures.lanes, c.in_ok-first_lanes.ensures) (first_fronts_are c.args.plan.now.queues)

pub invariant_of-result-clause-valid : goal.invariant_of-result-clause-valid
invariant_of-result-clause-valid c = rw (c.in_ok-new.ensures.journal, c.in_ok-new.ensures.lanes, c.in_ok-first_lanes.ensures) (lanes_at_first c.args.plan.now)

pub invariant_of-result-clause-ready_is : goal.invariant_of-result-clause-ready_is
invariant_of-result-clause-ready_is c = rw (c.in_ok-new.ensures.timelines, c.in_ok-new.ensures.lanes, c.in_ok-first_lanes.ensures, none_ready (replicate c.args.plan.now.timelines 0) c.args.plan.now.queues) refl
