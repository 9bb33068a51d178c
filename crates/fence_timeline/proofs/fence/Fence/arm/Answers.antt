use Rattle.std.proofs.Common.{arith}
use Rattle.fence_timeline.proofs.KeptFence.{is_list}
use Rattle.fence_timeline.proofs.FenceCalls.{armed_keeps}
use Rattle.fence_timeline.proofs.fence.Fence.arm.Goals as goal

pub invariant_of-self-2 : goal.invariant_of-self-2
invariant_of-self-2 c =
    let it = c.self.inside in
    let now = c.in_ok-wait.ensures in
    armed_keeps
    it.id it.base it.ending it.applied it.pending c.in_ok-wait.wait it.waits c.arm.new.self
    c.self.invariant now.armed now.wait.0 (omega (arith, now.wait.2)) now.fresh

pub returns-clause-list : goal.returns-clause-list
returns-clause-list c =
    let it = c.self.inside in
    let now = c.in_ok-wait.ensures in
    is_list _ _ _ _ it.ending _ (armed_keeps
    it.id it.base it.ending it.applied it.pending c.in_ok-wait.wait it.waits c.arm.new.self
    c.self.invariant now.armed now.wait.0 (omega (arith, now.wait.2)) now.fresh)
