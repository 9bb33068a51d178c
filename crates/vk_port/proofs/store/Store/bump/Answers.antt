-- An end leaves what the other commands wait for, and how far they are done.
use Rattle.vk_port.specs.Stored.{state_of}
use Rattle.vk_port.specs.declared.steps.Stepped.TheVariants.{Bumped}
use Rattle.vk_port.proofs.DeviceStages.{kept_by_bump}
use Rattle.vk_port.proofs.ValidLanes.{lanes_after_step}
use Rattle.vk_port.proofs.store.Store.bump.Goals as goal

pub count_steps-self-requires-clause-stages : goal.count_steps-self-requires-clause-stages
count_steps-self-requires-clause-stages c = λ known. rw c.bump-2.ensures (kept_by_bump c.args.queue c.args.self.now.progress.lanes (c.args.self.now.known known))

pub invariant_of-self-clause-known : goal.invariant_of-self-clause-known
invariant_of-self-clause-known c = λ known. rw c.bump-2.ensures (kept_by_bump c.args.queue c.args.self.now.progress.lanes (c.args.self.now.known known))

pub invariant_of-self-clause-done : goal.invariant_of-self-clause-done
invariant_of-self-clause-done c = rw c.bump-2.ensures c.bump.ensures.fronts

pub invariant_of-self-clause-valid : goal.invariant_of-self-clause-valid
invariant_of-self-clause-valid c =
    rw c.bump-2.ensures (lanes_after_step (state_of c.args.self.now) (Bumped c.args.queue c.args._number) c.requires c.args.self.now.valid)
