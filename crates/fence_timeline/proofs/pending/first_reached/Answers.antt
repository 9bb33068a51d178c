use Rattle.std.proofs.Common.{sym}
use Rattle.fence_timeline.proofs.PendingList.{caught_nothing, caught_none}
use Rattle.fence_timeline.proofs.pending.first_reached.Goals as goal

pub returns-else-is_reached_by-clause-none : goal.returns-else-is_reached_by-clause-none
returns-else-is_reached_by-clause-none c =
    caught_none _ _ c.in-Some.update (sym c.in-Some.ensures) (sym c.if-is_reached_by.ensures)

pub returns-in-None-clause-none : goal.returns-in-None-clause-none
returns-in-None-clause-none c = caught_nothing _ _ (sym c.in-None.ensures)
