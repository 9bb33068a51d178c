use Rattle.std.proofs.Common.{[], ◌∷◌}
use Rattle.fence_timeline.specs.FenceList.{pending_of}
use Rattle.fence_timeline.proofs.PendingCalls.{have_like}
use Rattle.fence_costs.proofs.Steps.{caught_on}
use Rattle.fence_costs.proofs.rounds.catch.Goals as goal

pub catch_up-requires : goal.catch_up-requires
catch_up-requires c = have_like (0 ∷ []) c.args.counters.now (pending_of c.args.fence.now) c.requires.one c.requires.queue.one

pub returns : goal.returns
returns c =
    caught_on c.args.fence.now c.catch_up.new.self c.args.counters.now c.catch_up.ensures.state c.catch_up.ensures.list c.requires.queue
