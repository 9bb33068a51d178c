-- What a worker's step needs, and what it leaves.
use Rattle.std.proofs.Common.{ℕ, ◌≡◌, ◌<◌, ◌≤◌, ◌+◌, ◌∙◌, sym, ap, subst, refl, arith, List, [], ◌∷◌, length, map, Some, None, Option, Bool, true, false, get_or, set, length-append, IfSome, IsSome}
use Rattle.std.proofs.lemmas.Bool.{ltb-true}
use Rattle.std.proofs.lemmas.List.{length-map}
use Rattle.std.proofs.lemmas.Option.{slice_get_within, slice_get-map, slice_get_read}
use Rattle.std.specs.List.{slice_get}
use Rattle.std.specs.Option.{option_map}
use Rattle.std.specs.Prelude.{◌==◌, if◌then◌else◌}
use Rattle.dx_base.specs.Lists.{changed_at}
use Rattle.dx_base.proofs.Lists.{map_write}
use Rattle.d3d_machine.specs.declared.world.World.{World}
use Rattle.d3d_machine.specs.declared.events.Operation.{Operation}
use Rattle.d3d_machine.specs.declared.events.Event.{Event}
use Rattle.d3d_machine.specs.World.{HasOneQueueAtMost}
use Rattle.d3d_machine.specs.State.{State, first_state}
use Rattle.d3d_machine.specs.Effects.{after}
use Rattle.dx_base.specs.Effects.{At}
use Rattle.d3d_machine.specs.CallEffects.{here_of}
use Rattle.d3d_machine.specs.Operations.{operations, operations_from, event_gives, called_by}
use Rattle.d3d_machine.specs.Good.{is_good_operation}
use Rattle.d3d_machine.proofs.Good.{operations_are_good}
use Rattle.d3d_machine.proofs.Named.{all_at}
use Rattle.vk_types.specs.declared.batches.Batch.{Batch}
use Rattle.vk_port.specs.Journal.{next_number, fits_plan}
use Rattle.vk_sync_rules.specs.VkState.{VkState as Machine}
use Rattle.vk_port.specs.DeviceView.{DeviceView}
use Rattle.vk_port.specs.Machine.{lanes_of, shown}
use Rattle.vk_port.specs.VkState.{VkState}
use Rattle.vk_port.specs.After.{after_submit}
use Rattle.vk_port.proofs.Lists.{item_at}
use Rattle.sys_core.specs.declared.parts.Held.{Held}
use Rattle.sys_core.specs.declared.parts.Parts.{Parts}
use Rattle.sys_core.specs.Lowering.{plan_of_world, lowered}
use Rattle.sys_core.specs.Batches.{batch_by, is_numbered_operation}
use Rattle.sys_core.specs.Parts.{queued, updates_in, submitted_one}
use Rattle.sys_core.specs.Steps.{submitted_of, is_ready_worker, submitted_batches, next_batch, after_submits}
use Rattle.sys_core.specs.Consistent.{IsHeld, IsConsistent}
use Rattle.sys_core.specs.Keeps.{Keeps}
use Rattle.vk_types.specs.declared.steps.VkStep.TheVariants.{Submit}
use Rattle.vk_sync_rules.specs.Rules.{after_step as after_vk_step}
use Rattle.sys_core.specs.Machine.{IsMachine}
use Rattle.sys_core.proofs.MachineSteps.{machine_submit, shown_submit}
use Rattle.sys_core.proofs.Keeping.{has_plan}
use Rattle.sys_core.proofs.Holding.{slice_get_drop}
use Rattle.sys_core.proofs.Standing.{next_is}
use Rattle.sys_core.proofs.Startup.{begins_of}
use Rattle.sys_core.proofs.Fitting.{numbered_operation, batch_fits}
use Rattle.sys_core.proofs.Working.{lowered_is, consistent_submit}

one_at_most : (b : Bool) (o : Operation) → length (if b then o ∷ [] else []) ≤ 1
one_at_most true o = omega arith
one_at_most false o = omega arith

at_most_one : (q : ℕ) (o : Option (At Operation)) → length (here_of q o) ≤ 1
at_most_one q None = omega arith
at_most_one q (Some x) = one_at_most (x.place == q) x.what

-- there are no more operations than events
operations_few : (w : World) (s : State) (q : ℕ) (h : List Event) → length (operations_from w s q h) ≤ length h
operations_few w s q [] = omega arith
operations_few w s q (e ∷ h) =
    omega (arith, length-append (called_by w s.desk q e) (operations_from w (after w s e) q h), at_most_one q (event_gives w s.desk e), operations_few w (after w s e) q h)

-- a queue's next operation
pub record IsNext (w : World) (h : List Event) (v : VkState) (q : ℕ) (y : Held) (o : Operation) : Type 0 where
  pub held : IsHeld w h v q (queued y)
  pub head : slice_get y.operations.items 0 ≡ Some o
  pub called : slice_get (operations w h q) (submitted_of v q) ≡ Some o
  pub good : is_good_operation w o ≡ true
  pub few : y.submitted + 1 ≤ length h

module _ (w : World) (h : List Event) (p : Parts) (d : DeviceView) (keeps : Keeps w h p d) where
  pub held_at : (q : ℕ) (y : Held) → q < length w.queues → y ≡ get_or p.held q y → slice_get p.held q ≡ Some y
  held_at q y within is =
      slice_get_read p.held (length p.held) q y refl (omega (arith, within, length-map p.held queued, keeps.consistent.held_are.count)) is

  pub next_found : (q : ℕ) (y : Held) → q < length w.queues → is_ready_worker w h (shown d.state) q ≡ true → slice_get p.held q ≡ Some y → (o : Operation) × IsNext w h (shown d.state) q y o
  next_found q y within ready at =
      let held : IsHeld w h (shown d.state) q (queued y) =
      keeps.consistent.held_are.each q (queued y) (slice_get-map queued p.held q ∙ ap (option_map queued) at) in
      let os : List Operation = operations w h q in
      let some : submitted_of (shown d.state) q < length os = ltb-true (submitted_of (shown d.state) q) (length os) ready in
      let found : (o : Operation) × (slice_get os (submitted_of (shown d.state) q) ≡ Some o) = item_at os (submitted_of (shown d.state) q) some in (
        found.0,
        record {
          held = held;
          head = ap (λ xs. slice_get xs 0) held.rest ∙ slice_get_drop y.submitted os ∙ ap (slice_get os) held.submitted_is ∙ found.1;
          called = found.1;
          good = all_at (is_good_operation w) os (submitted_of (shown d.state) q) found.0 (operations_are_good w h q) found.1;
          few = omega (arith, some, held.submitted_is, operations_few w (first_state w) q h);
        },
      )

  -- the same, of the held queue that was lent
  pub next_lent : (q : ℕ) (y : Held) → q < length w.queues → is_ready_worker w h (shown d.state) q ≡ true → y ≡ get_or p.held q y → (o : Operation) × IsNext w h (shown d.state) q y o
  next_lent q y within ready is = next_found q y within ready (held_at q y within is)

  pub numbered_next : (o : Operation) → is_good_operation w o ≡ true → is_numbered_operation w o ≡ true
  numbered_next o good = numbered_operation w o keeps.consistent.world good

  pub number_next : (q : ℕ) (y : Held) (o : Operation) → q < length w.queues → IsNext w h (shown d.state) q y o → y.submitted + 1 ≡ next_number q d.state.journal
  number_next q y o within next =
      ap (λ k. k + 1) next.held.submitted_is
      ∙ sym (next_is w (shown d.state) keeps.consistent.device.stands.rest q (begins_of w h (shown d.state) keeps.consistent.device.stands (omega (arith, within))) (keeps.consistent.device.stands.queues q within).numbered)

  pub fits_next : (q : ℕ) (y : Held) (o : Operation) (b : Batch) → q < length w.queues → IsNext w h (shown d.state) q y o → b ≡ batch_by w q (y.submitted + 1) y.last_signal o →
      IfSome d.plan (λ plan. fits_plan plan b ≡ true)
  fits_next q y o b within next is =
      subst (λ plan. IfSome plan (λ x. fits_plan x b ≡ true)) (sym keeps.plan)
      (ap (fits_plan (plan_of_world w)) is ∙ batch_fits w q (y.submitted + 1) y.last_signal o within next.good)

  -- the batch that was submitted is the lowered one
  pub batch_next : HasOneQueueAtMost w → (q : ℕ) (y : Held) (o : Operation) (b : Batch) → q < length w.queues → IsNext w h (shown d.state) q y o → b ≡ batch_by w q (y.submitted + 1) y.last_signal o →
      b ≡ lowered w h d.state.journal q (submitted_of (shown d.state) q + 1) o
  batch_next most q y o b within next is = is ∙ sym (lowered_is w h (shown d.state) q (queued y) o most keeps.consistent.device next.held within)

  pub machine_next : HasOneQueueAtMost w → (q : ℕ) (y : Held) (o : Operation) (b : Batch) → q < length w.queues → IsNext w h (shown d.state) q y o → b ≡ batch_by w q (y.submitted + 1) y.last_signal o →
      IsMachine w (after_vk_step d.state (Submit b)) × (shown (after_vk_step d.state (Submit b)) ≡ after_submit (shown d.state) b)
  machine_next most q y o b within next is =
      let queue : b.queue ≡ q = ap (λ (x : Batch). x.queue) is in
      let lane : b.queue < length (lanes_of d.state) = omega (arith, queue, within, keeps.consistent.device.objects.lanes) in
      let number : b.number ≡ next_number b.queue d.state.journal = ap (λ (x : Batch). x.number) is ∙ number_next q y o within next ∙ ap (λ i. next_number i d.state.journal) (sym queue) in (
        machine_submit w d.state b keeps.machine_is lane number (ap (fits_plan (plan_of_world w)) is ∙ batch_fits w q (y.submitted + 1) y.last_signal o within next.good),
        shown_submit w d.state b keeps.machine_is lane number,
      )

  pub state_next : HasOneQueueAtMost w → (q : ℕ) (y : Held) (o : Operation) (b : Batch) (n : Machine) → q < length w.queues → IsNext w h (shown d.state) q y o → b ≡ batch_by w q (y.submitted + 1) y.last_signal o →
      n ≡ after_vk_step d.state (Submit b) → n ≡ after_submits d.state (submitted_batches w h (shown d.state) q)
  state_next most q y o b n within next is after =
      after ∙ ap (λ x. after_vk_step d.state (Submit x)) (batch_next most q y o b within next is)
      ∙ ap (λ x. after_submits d.state (next_batch w h (shown d.state) q x)) (sym next.called)

  pub keeps_next : HasOneQueueAtMost w → (q : ℕ) (y z : Held) (o : Operation) (b : Batch) (e : DeviceView) → q < length w.queues → y ≡ get_or p.held q y → IsNext w h (shown d.state) q y o →
      b ≡ batch_by w q (y.submitted + 1) y.last_signal o → e.state ≡ after_vk_step d.state (Submit b) → (IsSome d.plan → e.plan ≡ d.plan) → queued z ≡ submitted_one o (queued y) →
      Keeps w h (record p { held = set p.held q z }) e
  keeps_next most q y z o b e within lent next is after plan submitted =
      let at : slice_get p.held q ≡ Some y = held_at q y within lent in
      let now : IsMachine w (after_vk_step d.state (Submit b)) × (shown (after_vk_step d.state (Submit b)) ≡ after_submit (shown d.state) b) = machine_next most q y o b within next is in
      let at_queued : slice_get (map queued p.held) q ≡ Some (queued y) = slice_get-map queued p.held q ∙ ap (option_map queued) at in
      let held : map queued (set p.held q z) ≡ changed_at (submitted_one o) q (map queued p.held) =
      map_write queued (submitted_one o) p.held q y z (slice_get_within p.held q y at) lent submitted in
      record {
        consistent =
            subst (λ v. IsConsistent w h p.lists p.seats (map updates_in p.fences) (map queued (set p.held q z)) v)
            (sym (ap (λ m. shown m) after ∙ now.1 ∙ ap (after_submit (shown d.state)) (batch_next most q y o b within next is)))
            (subst (λ x. IsConsistent w h p.lists p.seats (map updates_in p.fences) x (after_submit (shown d.state) (lowered w h d.state.journal q (submitted_of (shown d.state) q + 1) o))) (sym held)
            (consistent_submit w h p.lists p.seats (map updates_in p.fences) (map queued p.held) (shown d.state) q (queued y) o keeps.consistent at_queued next.head));
        machine_is = subst (IsMachine w) (sym after) now.0;
        plan = plan (has_plan w h p d keeps) ∙ keeps.plan;
        numbers = keeps.numbers;
        searched = keeps.searched;
      }
