-- A pass leaves what the commands wait for, and how far they are done.
use Rattle.vk_port.specs.After.{lane_after_pass}
use Rattle.vk_port.specs.Stored.{state_of}
use Rattle.vk_port.specs.declared.steps.Stepped.TheVariants.{Passed}
use Rattle.vk_port.proofs.DeviceStages.{kept_by_pass}
use Rattle.vk_port.proofs.LanePlaces.{fronts_kept}
use Rattle.vk_port.proofs.ValidLanes.{lanes_after_step}
use Rattle.vk_port.proofs.store.Store.pass.Goals as goal

pub count_steps-self-requires-clause-fronts : goal.count_steps-self-requires-clause-fronts
count_steps-self-requires-clause-fronts c =
    rw c.pass.ensures (fronts_kept lane_after_pass (λ _ _ h. h) c.args.self.now.fronts c.args.self.now.progress.lanes c.args.queue c.args.self.now.done)

pub count_steps-self-requires-clause-stages : goal.count_steps-self-requires-clause-stages
count_steps-self-requires-clause-stages c = λ known. rw c.pass.ensures (kept_by_pass c.args.queue c.args.self.now.progress.lanes (c.args.self.now.known known))

pub invariant_of-self-clause-done : goal.invariant_of-self-clause-done
invariant_of-self-clause-done c =
    rw c.pass.ensures (fronts_kept lane_after_pass (λ _ _ h. h) c.args.self.now.fronts c.args.self.now.progress.lanes c.args.queue c.args.self.now.done)

pub invariant_of-self-clause-known : goal.invariant_of-self-clause-known
invariant_of-self-clause-known c = λ known. rw c.pass.ensures (kept_by_pass c.args.queue c.args.self.now.progress.lanes (c.args.self.now.known known))

pub invariant_of-self-clause-valid : goal.invariant_of-self-clause-valid
invariant_of-self-clause-valid c =
    rw c.pass.ensures (lanes_after_step (state_of c.args.self.now) (Passed c.args.queue c.args._number) c.requires c.args.self.now.valid)
