-- Each step of the system leaves less work or fewer free steps, and what the history and the device say of each other.
use Rattle.std.proofs.Common.{ℕ, ◌≡◌, ◌<◌, ◌+◌, ◌∙◌, sym, ap, subst, refl, arith, List, [], ◌∷◌, ◌++◌, length, Some, None, Option, Bool, true, append-nil, inl, inr, Result, Ok, Err, OnOk, OnErr}
use Rattle.std.proofs.lemmas.Bool.{ltb-true}
use Rattle.std.specs.List.{slice_get}
use Rattle.std.specs.Prelude.{⊤, if◌then◌else◌}
use Rattle.dx_base.specs.declared.steps.Step.{Step}
use Rattle.dx_base.specs.declared.steps.Step.TheVariants as step
use Rattle.d3d_machine.specs.declared.world.World.{World}
use Rattle.d3d_machine.specs.declared.events.Operation.{Operation}
use Rattle.d3d_machine.specs.declared.events.Event.{Event}
use Rattle.d3d_machine.specs.declared.events.Event.TheVariants as event
use Rattle.d3d_machine.specs.State.{Desk, Waiting, place_of}
use Rattle.d3d_machine.specs.Play.{IsRunButWords, May, SameButWords, is_marked, state_after}
use Rattle.d3d_machine.specs.Operations.{operations}
use Rattle.vk_types.specs.declared.batches.Batch.{Batch}
use Rattle.vk_port.specs.declared.steps.Stepped.{Stepped}
use Rattle.vk_port.specs.declared.steps.Stepped.TheVariants as stepped
use Rattle.vk_port.specs.After.{after_step, after_submit}
use Rattle.vk_port.specs.Enabled.{enabled_steps}
use Rattle.vk_port.specs.Left.{steps_left}
use Rattle.vk_sync_rules.specs.VkState.{VkState as Machine}
use Rattle.vk_port.specs.DeviceView.{DeviceView}
use Rattle.vk_port.specs.VkState.{VkState}
use Rattle.vk_port.proofs.Enabled.{enabled_means}
use Rattle.vk_port.proofs.Lists.{item_at}
use Rattle.sys_core.specs.declared.parts.Parts.{Parts}
use Rattle.sys_core.specs.declared.faults.SysFault.{SysFault}
use Rattle.sys_core.specs.Goes.{SysState, IsStep, WasTaken, tally}
use Rattle.sys_core.specs.Answered.{HasAnswered}
use Rattle.sys_core.specs.ThreadSteps.{IsOf, IsThreadStep, after_host}
use Rattle.sys_core.specs.Lowering.{lowered}
use Rattle.vk_types.specs.declared.steps.VkStep.TheVariants.{Submit}
use Rattle.vk_sync_rules.specs.Rules.{after_step as after_vk_step}
use Rattle.vk_port.specs.Journal.{next_number}
use Rattle.vk_port.specs.Machine.{shown, after_stepped}
use Rattle.sys_core.specs.Steps.{is_ready_worker, submitted_of, submitted_batches, next_batch, after_submits, step_events, IsDeviceStep}
use Rattle.sys_core.proofs.MachineSteps.{call_shown, shown_step, shown_submit, submit_fits}
use Rattle.sys_core.proofs.Startup.{begins_of}
use Rattle.sys_core.proofs.Standing.{next_is}
use Rattle.sys_core.specs.StepCount.{rest_used}
use Rattle.sys_core.specs.Work.{work}
use Rattle.sys_core.specs.Ahead.{IsWhole}
use Rattle.sys_core.specs.Keeps.{Keeps}
use Rattle.sys_core.proofs.Whole.{whole_thread, whole_submit, whole_step}
use Rattle.sys_core.proofs.StepCount.{count_call, count_awake, thread_counts, submit_counts, device_counts, among}
use Rattle.sys_core.proofs.Work.{call_falls, awake_falls, submit_falls, device_falls}

-- a step that went: the work with the free steps left falls, and what the history and the device say of each other stays
pub record Goes (w : World) (h k : List Event) (m n : Machine) (before after : ℕ) : Type 0 where
  pub falls : work w k (shown n) + after < work w h (shown m) + before
  pub counts : (tally k (shown n) + steps_left (shown m)) + before ≡ (tally h (shown m) + steps_left (shown n)) + (after + 1)
  pub whole : IsWhole w h m → IsWhole w k n

-- the same, by what is shown of the machine
goes_by : (w : World) (h k : List Event) (m n : Machine) (u : VkState) (a b : ℕ) → shown n ≡ u → work w k u + b < work w h (shown m) + a →
    (tally k u + steps_left (shown m)) + a ≡ (tally h (shown m) + steps_left u) + (b + 1) → (IsWhole w h m → IsWhole w k n) → Goes w h k m n a b
goes_by w h k m n u a b same falls counts whole = record {
  falls = subst (λ x. work w k x + b < work w h (shown m) + a) (sym same) falls;
  counts = subst (λ x. (tally k x + steps_left (shown m)) + a ≡ (tally h (shown m) + steps_left x) + (b + 1)) (sym same) counts;
  whole = whole;
}

-- the same, of what the history and the machine are
goes_of : (w : World) (h k l : List Event) (m n y : Machine) (a b : ℕ) → k ≡ l → n ≡ y → Goes w h l m y a b → Goes w h k m n a b
goes_of w h k l m n y a b history machine goes = subst (λ z. Goes w h k m z a b) (sym machine) (subst (λ z. Goes w h z m y a b) (sym history) goes)

-- what is shown of the machine stays by an event of a thread
host_shown : (w : World) (d : Desk) (m : Machine) (e : Event) → shown (after_host w d m e) ≡ shown m
host_shown w d m (event.Call t c r) = call_shown w d.lists m c r
host_shown w d m (event.Awake t) = refl
host_shown w d m (event.Queue q) = refl

-- a wait that is marked
marked_wait : (o : Option Waiting) → is_marked o ≡ true → (x : Waiting) × (o ≡ Some x)
marked_wait None is = absurd (cc)
marked_wait (Some x) is = (x, refl)

-- an event of a thread leaves less work, and is one more
record Counts (w : World) (h k : List Event) (v : VkState) (a b : ℕ) : Type 0 where
  falls : work w k v + b < work w h v + a
  counts : (tally k v + steps_left v) + a ≡ (tally h v + steps_left v) + (b + 1)

event_counts : (w : World) (h : List Event) (v : VkState) (t : ℕ) (e : Event) → IsOf t e → May SameButWords w (state_after w h) e → (a b : ℕ) → b ≡ a → Counts w h (h ++ e ∷ []) v a b
event_counts w h v t (event.Call u c r) of_thread may a b same = record {
  falls = omega (arith, call_falls w h v v u c r may.1 refl refl, same);
  counts = thread_counts h (h ++ event.Call u c r ∷ []) v v a b (count_call h u c r) refl refl same;
}
event_counts w h v t (event.Awake u) of_thread may a b same =
    let waits : (x : Waiting) × ((place_of (state_after w h).desk u.0).waits ≡ Some x) = marked_wait (place_of (state_after w h).desk u.0).waits may in
    record {
      falls = omega (arith, awake_falls w h v u waits.0 waits.1, same);
      counts = thread_counts h (h ++ event.Awake u ∷ []) v v a b (count_awake h u) refl refl same;
    }
event_counts w h v t (event.Queue q) of_thread may a b same = absurd of_thread

module _ (w : World) (h : List Event) (p : Parts) (d : DeviceView) (keeps : Keeps w h p d) where
  -- a thread's step
  pub thread_went : (t : ℕ) (k : List Event) (n : Machine) → IsThreadStep w h k d.state n t → (a b : ℕ) → b ≡ a → Goes w h k d.state n a b
  thread_went t k n is a b same =
      let counted : Counts w h (h ++ is.event ∷ []) (shown d.state) a b = event_counts w h (shown d.state) t is.event is.of_thread is.enabled a b same in
      let went : Counts w h k (shown d.state) a b = subst (λ l. Counts w h l (shown d.state) a b) (sym is.history) counted in
      goes_by w h k d.state n (shown d.state) a b (ap (λ m. shown m) is.machine ∙ host_shown w (state_after w h).desk d.state is.event) went.falls went.counts
      (whole_thread w h k d.state n t keeps.consistent.world keeps.consistent.run keeps.consistent.device keeps.machine_is is)

  -- a worker's step
  pub worker_went : (q : ℕ) → q < length w.queues → is_ready_worker w h (shown d.state) q ≡ true → (n : Machine) →
      n ≡ after_submits d.state (submitted_batches w h (shown d.state) q) → (a b : ℕ) → b ≡ a → Goes w h h d.state n a b
  worker_went q within ready n after a b same =
      let v : VkState = shown d.state in
      let m : Machine = d.state in
      let os : List Operation = operations w h q in
      let found : (o : Operation) × (slice_get os (submitted_of v q) ≡ Some o) =
      item_at os (submitted_of v q) (ltb-true (submitted_of v q) (length os) ready) in
      let o : Operation = found.0 in
      let batch : Batch = lowered w h v.journal q (submitted_of v q + 1) o in
      let lane : q < length v.lanes = omega (arith, within, keeps.consistent.device.objects.lanes) in
      let number : batch.number ≡ next_number q v.journal =
      sym (next_is w v keeps.consistent.device.stands.rest q (begins_of w h v keeps.consistent.device.stands (omega (arith, within))) (keeps.consistent.device.stands.queues q within).numbered) in
      let seen : shown (after_vk_step m (Submit batch)) ≡ after_submit v batch = shown_submit w m batch keeps.machine_is lane number in
      goes_of w h h h m n (after_vk_step m (Submit batch)) a b refl (after ∙ ap (λ x. after_submits m (next_batch w h v q x)) found.1)
      (goes_by w h h m (after_vk_step m (Submit batch)) (after_submit v batch) a b seen
      (omega (arith, submit_falls w h v q o batch within found.1 refl refl refl keeps.consistent.device.valid lane, same))
      (submit_counts h v batch a b keeps.consistent.device.valid lane same)
      (whole_submit w h m q batch o keeps.consistent.device keeps.machine_is within found.1 refl refl refl refl (submit_fits w m batch keeps.machine_is lane number) seen))

  -- a step of the device
  pub device_went : (j : ℕ) (k : List Event) (n : Machine) → IsDeviceStep h k d.state n j → IsRunButWords w k →
      (a b : ℕ) → a ≡ b + rest_used (shown d.state) (step.Device j) → Goes w h k d.state n a b
  device_went j k n is run a b used =
      let v : VkState = shown d.state in
      let m : Machine = d.state in
      let s : Stepped = is.step in
      elim (among j (length (enabled_steps v))) [
        | inr past ↦
            let none : s ≡ stepped.Free = is.free past.1 in
            let one : a ≡ b + 1 = used ∙ ap (λ (x : Bool). b + (if x then 0 else 1)) past.0 in
            goes_of w h k h m n m a b (is.history ∙ ap (λ x. h ++ step_events x) none ∙ append-nil h) (is.machine ∙ ap (λ x. after_stepped m x []) none)
            (record { falls = omega (arith, one); counts = omega (arith, one); whole = λ x. x })
        | inl within ↦
            let at : slice_get (enabled_steps v) j ≡ Some s = is.named within.1 in
            let same : a ≡ b = used ∙ ap (λ (x : Bool). b + (if x then 0 else 1)) within.0 ∙ (let e : b + 0 ≡ b = omega arith in e) in
            goes_of w h k (h ++ step_events s) m n (after_stepped m s []) a b is.history is.machine
            (goes_by w h (h ++ step_events s) m (after_stepped m s []) (after_step v s) a b (shown_step w m s keeps.machine_is (enabled_means v j s at))
            (omega (arith, device_falls w h v j s keeps.consistent.device.valid at, same))
            (device_counts h v j s a b keeps.consistent.device.valid at same)
            (whole_step w h m j s keeps.consistent.run keeps.consistent.device keeps.machine_is at (subst (IsRunButWords w) is.history run)))
      ]

  -- what a step leaves, taken or refused
  pub whole_of : (k : List Event) (e : DeviceView) (a b : ℕ) (res : Result ⊤ SysFault) → IsWhole w h d.state → OnOk res (Goes w h k d.state e.state a b) →
      OnErr res (k ≡ h) → HasAnswered d e res → IsWhole w k e.state
  whole_of k e a b (Ok x) is goes same answered = goes.whole is
  whole_of k e a b (Err f) is goes same answered =
      subst (λ n. IsWhole w k n) (sym (ap (λ (x : DeviceView). x.state) answered.same)) (subst (λ l. IsWhole w l d.state) (sym same) is)

  -- a thread's step that went
  pub thread_goes : (t : ℕ) (k : List Event) (n : Machine) (res : Result ⊤ SysFault) → OnOk res (IsThreadStep w h k d.state n t) → (a b : ℕ) → b ≡ a → OnOk res (Goes w h k d.state n a b)
  thread_goes t k n (Ok x) is a b same = thread_went t k n is a b same
  thread_goes t k n (Err e) is a b same = tt

  -- a worker's step that went
  pub worker_goes : (q : ℕ) → q < length w.queues → is_ready_worker w h (shown d.state) q ≡ true → (n : Machine) (res : Result ⊤ SysFault) →
      OnOk res (n ≡ after_submits d.state (submitted_batches w h (shown d.state) q)) → (a b : ℕ) → b ≡ a → OnOk res (Goes w h h d.state n a b)
  worker_goes q within ready n (Ok x) after a b same = worker_went q within ready n after a b same
  worker_goes q within ready n (Err e) after a b same = tt

  -- a device's step that went
  pub device_goes : (j : ℕ) (k : List Event) (n : Machine) (res : Result ⊤ SysFault) → OnOk res (IsDeviceStep h k d.state n j) → IsRunButWords w k →
      (a b : ℕ) → OnOk res (a ≡ b + rest_used (shown d.state) (step.Device j)) → OnOk res (Goes w h k d.state n a b)
  device_goes j k n (Ok x) is run a b used = device_went j k n is run a b used
  device_goes j k n (Err e) is run a b used = tt

  -- a step that was taken
  pub taken : {D : Type 0} (f g : D) (s : Step) (k : List Event) (e : DeviceView) (res : Result ⊤ SysFault) →
      OnOk res (IsStep w (record { history = h; machine = d.state }) s (record { history = k; machine = e.state })) →
      OnOk res (d.rest ≡ e.rest + rest_used (shown d.state) s) → OnOk res (Goes w h k d.state e.state d.rest e.rest) →
      OnOk res (WasTaken s (record { world = w; history = h; device = d; itself = f }) (record { world = w; history = k; device = e; itself = g }))
  taken f g s k e (Ok x) is used goes = record { world = refl; goes = is; rest = used; counts = goes.counts; falls = goes.falls }
  taken f g s k e (Err x) is used goes = tt

  -- a step that is not the device's takes no free step
  pub none_used : (s : Step) (res : Result ⊤ SysFault) (a b : ℕ) → b ≡ a → rest_used (shown d.state) s ≡ 0 → OnOk res (a ≡ b + rest_used (shown d.state) s)
  none_used s (Ok x) a b same none = omega (arith, same, none)
  none_used s (Err x) a b same none = tt

  pub is_worker_step : (q : ℕ) (e : DeviceView) (res : Result ⊤ SysFault) → OnOk res (e.state ≡ after_submits d.state (submitted_batches w h (shown d.state) q)) →
      OnOk res (IsStep w (record { history = h; machine = d.state }) (step.Worker q) (record { history = h; machine = e.state }))
  is_worker_step q e (Ok x) after = ap (λ m. let s : SysState = record { history = h; machine = m } in s) after
  is_worker_step q e (Err x) after = tt

-- what does not change stays
pub stays_same : {A : Type 0} (res : Result ⊤ SysFault) (x : A) → OnErr res (x ≡ x)
stays_same (Ok u) x = tt
stays_same (Err e) x = refl
