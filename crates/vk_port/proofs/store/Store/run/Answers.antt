-- A done command waits for what it waited for; the others are ready as before, where one that works alike is left in front.
use Rattle.std.proofs.Common.{◌≡◌, ◌∙◌, true, sym, subst, Option}
use Rattle.std.proofs.lemmas.Option.{slice_get_within}
use Rattle.vk_port.specs.After.{lane_after_run}
use Rattle.vk_port.specs.Fronts.{has_alike}
use Rattle.vk_types.specs.declared.commands.VkCommand.{VkCommand}
use Rattle.vk_port.specs.Stored.{state_of}
use Rattle.vk_port.specs.declared.steps.Stepped.TheVariants.{Ran}
use Rattle.vk_port.proofs.DeviceStages.{kept_by_run}
use Rattle.vk_port.proofs.LanePlaces.{fronts_kept, front_after_run}
use Rattle.vk_port.proofs.Lists.{length_changed}
use Rattle.vk_port.proofs.ReadySteps.{counted_behind}
use Rattle.vk_port.proofs.ValidLanes.{lanes_after_step, lanes_numbered}
use Rattle.vk_port.proofs.store.Store.run.Goals as goal

pub advance-requires-clause-queue : goal.advance-requires-clause-queue
advance-requires-clause-queue c =
    rw (c.mark.ensures, length_changed (lane_after_run c.args.number c.args.place) c.args.queue c.args.self.now.progress.lanes)
    (slice_get_within c.args.self.now.progress.lanes c.args.queue c.requires.lane c.requires.there)

pub advance-requires-clause-fronts : goal.advance-requires-clause-fronts
advance-requires-clause-fronts c =
    rw c.mark.ensures (fronts_kept (lane_after_run c.args.number c.args.place) (front_after_run c.args.number c.args.place) c.args.self.now.fronts c.args.self.now.progress.lanes c.args.queue c.args.self.now.done)

pub at-requires : goal.at-requires
at-requires c =
    rw (c.mark.ensures, length_changed (lane_after_run c.args.number c.args.place) c.args.queue c.args.self.now.progress.lanes)
    (slice_get_within c.args.self.now.progress.lanes c.args.queue c.requires.lane c.requires.there)

pub count_behind-self-requires-clause-stages : goal.count_behind-self-requires-clause-stages
count_behind-self-requires-clause-stages c =
    λ known. rw c.mark.ensures (kept_by_run c.args.queue c.args.number c.args.place c.args.self.now.progress.lanes (c.args.self.now.known known))

pub invariant_of-self-2-clause-known : goal.invariant_of-self-2-clause-known
invariant_of-self-2-clause-known c =
    λ known. rw c.mark.ensures (kept_by_run c.args.queue c.args.number c.args.place c.args.self.now.progress.lanes (c.args.self.now.known known))

pub invariant_of-self-2-clause-valid : goal.invariant_of-self-2-clause-valid
invariant_of-self-2-clause-valid c =
    rw c.mark.ensures (lanes_after_step (state_of c.args.self.now) (Ran c.args.queue c.args.number c.args.place) c.requires c.args.self.now.valid)

pub at-front-requires : goal.at-front-requires
at-front-requires c =
    rw (c.advance.ensures.each, c.mark.ensures, length_changed (lane_after_run c.args.number c.args.place) c.args.queue c.args.self.now.progress.lanes)
    (slice_get_within c.args.self.now.progress.lanes c.args.queue c.requires.lane c.requires.there)

pub count_behind-self-requires-clause-fewer : goal.count_behind-self-requires-clause-fewer
count_behind-self-requires-clause-fewer c =
    λ alike. rw c.mark.ensures
    (counted_behind (state_of c.args.self.now) c.args.queue c.args.number c.args.place c.args.self.now.ready c.advance.new.fronts c.at-front.result.now c.at.result.now c.args.self.now.valid c.requires c.args.self.now.ready_is
    (rw c.mark.ensures at c.advance.ensures.fronts) c.at-front.ensures (rw c.mark.ensures at c.at.ensures) (subst (λ (o : Option VkCommand). has_alike c.at.result.now c.at-front.result.now c.args.number o ≡ true) c.command_of-command.ensures (sym c.has_alike-alike.ensures ∙ alike)))

pub command_of-command-requires-clause-numbered : goal.command_of-command-requires-clause-numbered
command_of-command-requires-clause-numbered c = lanes_numbered (state_of c.args.self.now) c.args.self.now.valid

pub mark-requires-clause-numbered : goal.mark-requires-clause-numbered
mark-requires-clause-numbered c = lanes_numbered (state_of c.args.self.now) c.args.self.now.valid
