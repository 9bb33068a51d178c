use Rattle.std.proofs.Common.{sym, subst}
use Rattle.fence_timeline.specs.FenceList.{FenceList}
use Rattle.fence_timeline.specs.Waits.{IsIn}
use Rattle.fence_timeline.proofs.KeptFence.{since_kept}
use Rattle.fence_timeline.proofs.fence.Fence.resolve.Goals as goal

pub overflow_sub-from : goal.overflow_sub-from
overflow_sub-from c =
    (since_kept _ _ _ _ _ _ c.args.wait.now c.self.invariant (subst (λ (v : FenceList). IsIn v.armed c.args.wait.now) (sym c.self.view_is) c.requires)).0

pub first_in-requires : goal.first_in-requires
first_in-requires c =
    (since_kept _ _ _ _ _ _ c.args.wait.now c.self.invariant (subst (λ (v : FenceList). IsIn v.armed c.args.wait.now) (sym c.self.view_is) c.requires)).1
