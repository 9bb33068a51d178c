-- A batch more is asked for what its commands wait for, and is not begun.
use Rattle.std.proofs.Common.{◌∙◌, sym, arith}
use Rattle.std.proofs.lemmas.Bool.{and_parts}
use Rattle.vk_port.specs.After.{with_batch}
use Rattle.vk_port.specs.DeviceStages.{batch_of_device}
use Rattle.vk_port.specs.Stored.{state_of}
use Rattle.vk_port.proofs.DeviceStages.{kept_by_submit}
use Rattle.vk_port.proofs.LanePlaces.{fronts_kept, front_after_submit}
use Rattle.vk_port.proofs.ValidLanes.{lanes_after_submit}
use Rattle.vk_port.proofs.store.Store.submit.Goals as goal

pub advance-requires-clause-fronts : goal.advance-requires-clause-fronts
advance-requires-clause-fronts c =
    rw (c.in_ok-add.ensures.ok, c.in_ok-reserve.ensures.lanes) (fronts_kept (with_batch c.in_ok-running.running) (front_after_submit c.in_ok-running.running) c.args.self.now.fronts c.args.self.now.progress.lanes c.args.batch.queue c.args.self.now.done)

pub count_steps-self-requires-clause-stages : goal.count_steps-self-requires-clause-stages
count_steps-self-requires-clause-stages c =
    λ known.
    let both = and_parts c.args.self.now.of_device (batch_of_device c.in_ok-running.running) (sym c.all_of_device-of_device.ensures ∙ known) in
    rw (c.submit.ensures.lanes, c.in_ok-add.ensures.ok, c.in_ok-reserve.ensures.lanes) (kept_by_submit c.args.batch.queue c.in_ok-running.running c.args.self.now.progress.lanes both.1 (c.args.self.now.known both.0))

pub invariant_of-self-2-clause-valid : goal.invariant_of-self-2-clause-valid
invariant_of-self-2-clause-valid c =
    rw (c.submit.ensures.journal, c.submit.ensures.lanes, c.in_ok-add.ensures.ok, c.in_ok-reserve.ensures.lanes, c.in_ok-reserve.ensures.journal, c.in_ok-running.ensures) (lanes_after_submit (state_of c.args.self.now) c.args.batch (omega arith) c.requires.number c.args.self.now.valid)

pub invariant_of-self-2-clause-known : goal.invariant_of-self-2-clause-known
invariant_of-self-2-clause-known c =
    λ known.
    let both = and_parts c.args.self.now.of_device (batch_of_device c.in_ok-running.running) (sym c.all_of_device-of_device.ensures ∙ known) in
    rw (c.submit.ensures.lanes, c.in_ok-add.ensures.ok, c.in_ok-reserve.ensures.lanes) (kept_by_submit c.args.batch.queue c.in_ok-running.running c.args.self.now.progress.lanes both.1 (c.args.self.now.known both.0))

pub invariant_of-self-2-clause-done : goal.invariant_of-self-2-clause-done
invariant_of-self-2-clause-done c = rw c.submit.ensures.lanes c.advance.ensures.fronts
