-- A thread that can go on has an enabled step, and so has the system while an operation is called and incomplete.
use Rattle.std.proofs.Common.{ℕ, zero, suc, ◌≡◌, ◌<◌, ◌≤◌, ◌+◌, ◌-◌, ◌∙◌, sym, ap, subst, refl, arith, List, [], ◌∷◌, ◌++◌, length, Some, Bool, true, length-append, length-drop, inl, inr}
use Rattle.std.proofs.lemmas.Bool.{cases_lt, lt-ltb}
use Rattle.std.proofs.lemmas.Bool.Decides.{eqb_tells}
use Rattle.std.proofs.lemmas.List.{length-map}
use Rattle.std.proofs.lemmas.Option.{slice_get-map, slice_get-get_or}
use Rattle.std.specs.List.{slice_get, list_all}
use Rattle.std.specs.Option.{option_map}
use Rattle.std.specs.Prelude.{nat_lt, if◌then◌else◌}
use Rattle.dx_base.specs.declared.steps.Step.{Step}
use Rattle.dx_base.specs.declared.steps.Step.TheVariants as step
use Rattle.dx_base.proofs.Lists.{and_both, and_of}
use Rattle.d3d_machine.specs.declared.world.World.{World}
use Rattle.d3d_machine.specs.declared.events.Event.{Event}
use Rattle.d3d_machine.specs.World.{HasOneQueueAtMost}
use Rattle.d3d_machine.specs.State.{called_of}
use Rattle.d3d_machine.specs.Play.{IsRunButWords, state_after}
use Rattle.d3d_machine.specs.Operations.{operations, counter}
use Rattle.d3d_machine.proofs.Named.{all_at}
use Rattle.vk_types.specs.declared.batches.Batch.{Batch}
use Rattle.vk_port.specs.declared.lanes.Running.{Running}
use Rattle.vk_port.specs.Enabled.{reached, enabled_steps}
use Rattle.vk_port.specs.Journal.{of_queue}
use Rattle.vk_port.specs.Offers.{steps_offered}
use Rattle.vk_port.specs.Valid.{IsLane, IsValid, is_marked, batch_of}
use Rattle.verdicts.specs.declared.rules.Verdict.TheVariants.{Clean}
use Rattle.vk_port.specs.VkState.{VkState, lane_of, no_lane, counter_of}
use Rattle.vk_port.proofs.Lists.{item_at}
use Rattle.vk_port.proofs.Progress.{lane_goes}
use Rattle.sys_core.specs.Lowering.{startup}
use Rattle.sys_core.specs.Steps.{is_ready_thread, is_ready_worker, submitted_of, steps_where, always, numbered, enabled_of}
use Rattle.sys_core.specs.Consistent.{IsDevice, finished_of}
use Rattle.sys_core.specs.Laws.{CanGoOn}
use Rattle.sys_core.specs.Stands.{AreLowered}
use Rattle.sys_core.proofs.Ahead.{called_now}
use Rattle.sys_core.proofs.AheadSteps.{at_first}
use Rattle.sys_core.proofs.Holding.{slice_get_drop}
use Rattle.sys_core.proofs.Lowered.{of_queue_member, number_at}
use Rattle.sys_core.proofs.Standing.{submitted_is}
use Rattle.sys_core.proofs.Startup.{opening_is, begins_of, one_queue}
use Rattle.sys_core.proofs.Waiting.{IsWaiting, waiting_member, waits_reached}

-- the steps that pass a test are some, where one passes it
where_some : (test : ℕ → Bool) (make : ℕ → Step) (n k t : ℕ) → n ≤ t → t < n + k → test t ≡ true → 0 < length (steps_where test make n k)
where_some test make n zero t least less passes = absurd (omega (arith, least, less))
where_some test make n (suc k) t least less passes =
    let first : List Step = if test n then make n ∷ [] else [] in
    let rest : List Step = steps_where test make (n + 1) k in
    let parts : length (first ++ rest) ≡ length first + length rest = length-append first rest in
    elim (eqb_tells n t) [
      | inl same ↦
          let one : length first ≡ 1 = ap (λ b. length (if b then make n ∷ [] else [])) (ap test same.1 ∙ passes) in
          omega (arith, parts, one)
      | inr other ↦
          let later : n ≤ t → n + 1 ≤ t = λ le. elim (cases_lt n t) [ inl lt ↦ omega (arith, lt) | inr past ↦ absurd (other.1 (omega (arith, le, past))) ] in
          omega (arith, parts, where_some test make (n + 1) k t (later least) (omega (arith, less)) passes)
    ]

-- the steps of the threads
abbrev threads_of : World → List Event → List Step
threads_of w h = steps_where (is_ready_thread w h) (λ t. step.Thread t) 0 (length w.scripts)

-- the steps of the workers
abbrev workers_of : World → List Event → VkState → List Step
workers_of w h v = steps_where (is_ready_worker w h v) (λ q. step.Worker q) 0 (length w.queues)

-- the steps of the device
abbrev devices_of : VkState → ℕ → List Step
devices_of v free = steps_where always (λ k. step.Device k) 0 (numbered (steps_offered v free))

parts_of : (w : World) (h : List Event) (v : VkState) (free : ℕ) →
    length (enabled_of w h Clean v free) ≡ length (threads_of w h) + (length (workers_of w h v) + length (devices_of v free))
parts_of w h v free =
    length-append (threads_of w h) (workers_of w h v ++ devices_of v free)
    ∙ ap (λ n. length (threads_of w h) + n) (length-append (workers_of w h v) (devices_of v free))

-- a thread that is ready has an enabled step
pub thread_goes : (w : World) (h : List Event) (v : VkState) (free t : ℕ) → t < length w.scripts → is_ready_thread w h t ≡ true → 0 < length (enabled_of w h Clean v free)
thread_goes w h v free t within ready =
    let some : 0 < length (threads_of w h) =
    where_some (is_ready_thread w h) (λ t. step.Thread t) 0 (length w.scripts) t (omega arith) (omega (arith, within)) ready in
    omega (arith, some, parts_of w h v free)

-- a queue with an operation that is not submitted has an enabled step of its worker
pub worker_goes : (w : World) (h : List Event) (v : VkState) (free q : ℕ) → q < length w.queues → submitted_of v q < length (operations w h q) →
    0 < length (enabled_of w h Clean v free)
worker_goes w h v free q within less =
    let some : 0 < length (workers_of w h v) =
    where_some (is_ready_worker w h v) (λ q. step.Worker q) 0 (length w.queues) q (omega arith) (omega (arith, within))
    (lt-ltb (submitted_of v q) (length (operations w h q)) less) in
    omega (arith, some, parts_of w h v free)

-- a device with a step has an enabled one
pub device_goes : (w : World) (h : List Event) (v : VkState) (free : ℕ) → 0 < length (enabled_steps v) → 0 < length (enabled_of w h Clean v free)
device_goes w h v free less =
    let some : 0 < length (devices_of v free) =
    where_some always (λ k. step.Device k) 0 (numbered (steps_offered v free)) 0 (omega arith) (omega (arith, less)) refl in
    omega (arith, some, parts_of w h v free)

-- the first unfinished batch of the one queue
record IsHead (v : VkState) (r : Running) : Type 0 where
  at : slice_get (of_queue 0 v.journal) (finished_of v 0) ≡ Some r.batch
  number : r.batch.number ≡ finished_of v 0

head_is : (v : VkState) (r : Running) → IsValid v → slice_get (lane_of v 0).batches 0 ≡ Some r → IsHead v r
head_is v r valid front =
    let j : List Batch = of_queue 0 v.journal in
    let rs : List Running = (lane_of v 0).batches in
    let lane : IsLane j (lane_of v 0) = valid.lanes 0 in
    let long : length rs ≡ length j - lane.finished = sym (length-map rs batch_of) ∙ ap length lane.are_last ∙ length-drop lane.finished j in
    let finished : lane.finished ≡ finished_of v 0 = omega (arith, long, lane.ended) in
    let here : slice_get j lane.finished ≡ Some r.batch =
    sym (slice_get_drop lane.finished j) ∙ ap (λ xs. slice_get xs 0) (sym lane.are_last) ∙ slice_get-map batch_of rs 0 ∙ ap (option_map batch_of) front in
    record {
      at = ap (slice_get j) (sym finished) ∙ here;
      number = number_at 0 j lane.finished r.batch (valid.numbered 0) here ∙ omega (arith, finished);
    }

-- its waits are reached
head_reached : (w : World) (h : List Event) (v : VkState) (r : Running) → HasOneQueueAtMost w → IsDevice w h v → 0 < length w.queues → IsHead v r → reached v.timelines r.batch.waits ≡ true
head_reached w h v r most device within head =
    let ts : List ℕ = v.timelines in
    let rest : List Batch = device.stands.rest in
    let begins : v.journal ≡ startup w ∷ rest = begins_of w h v device.stands within in
    let queue : of_queue 0 v.journal ≡ startup w ∷ of_queue 0 rest = ap (of_queue 0) begins in
    let n : ℕ = finished_of v 0 in
    elim (cases_lt 0 n) [
      | inl some ↦
          let n_is : n ≡ suc (n - 1) = omega (arith, some) in
          let behind : slice_get (of_queue 0 rest) (n - 1) ≡ Some r.batch =
          ap (λ k. slice_get (startup w ∷ of_queue 0 rest) k) (sym n_is) ∙ ap (λ bs. slice_get bs n) (sym queue) ∙ head.at in
          let member : (j : ℕ) × (slice_get rest j ≡ Some r.batch) × (r.batch.queue ≡ 0) = of_queue_member 0 rest (n - 1) r.batch behind in
          let p : Batch → Bool = λ b. nat_lt b.queue (length w.queues) in
          let named : (p (startup w) ≡ true) × (list_all p rest ≡ true) =
          and_both (p (startup w)) (list_all p rest) (ap (list_all p) (sym begins) ∙ device.named) in
          let waiting : IsWaiting w r.batch =
          waiting_member w h 0 (startup w ∷ []) rest member.0 r.batch (one_queue w most within)
          (subst (λ bs. AreLowered w h 0 bs rest) (opening_is w within) device.stands.lowered_rest) (and_of (p (startup w)) true named.0 refl) named.1 member.1 member.2 in
          let counter_is : counter_of v 0 ≡ counter h 0 = (device.stands.queues 0 within).counter_is in
          let finished : counter h 0 ≡ (0 + n) - 1 = device.finished 0 within in
          ap (reached ts) waiting.waits
          ∙ waits_reached ts (length w.queues) waiting.last waiting.operation (device.opening some)
          (omega (arith, waiting.before, head.number, counter_is, finished))
      | inr none ↦
          let first : Some (startup w) ≡ Some r.batch =
          ap (λ bs. slice_get bs 0) (sym queue) ∙ ap (slice_get (of_queue 0 v.journal)) (let e : 0 ≡ n = omega (arith, none) in e) ∙ head.at in
          let same : startup w ≡ r.batch = grind arith in
          ap (λ (b : Batch). reached ts b.waits) (sym same)
    ]

-- a device to which all called operations are submitted, of which one is incomplete, has a step
pub submitted_go : (w : World) (h : List Event) (v : VkState) → HasOneQueueAtMost w → IsDevice w h v → 0 < length w.queues → counter h 0 < length (operations w h 0) →
    length (operations w h 0) ≤ submitted_of v 0 → 0 < length (enabled_steps v)
submitted_go w h v most device within less all =
    let rest : List Batch = device.stands.rest in
    let begins : v.journal ≡ startup w ∷ rest = begins_of w h v device.stands within in
    let lanes : 0 < length v.lanes = omega (arith, within, device.objects.lanes) in
    let rs : List Running = (lane_of v 0).batches in
    let count : submitted_of v 0 ≡ length (of_queue 0 rest) = submitted_is w v rest 0 begins (device.stands.queues 0 within).numbered in
    let long : length (of_queue 0 v.journal) ≡ suc (length (of_queue 0 rest)) = ap (λ bs. length (of_queue 0 bs)) begins in
    let finished : counter h 0 ≡ (0 + finished_of v 0) - 1 = device.finished 0 within in
    let some : 0 < length rs = omega (arith, count, long, finished, less, all) in
    let first : (r : Running) × (slice_get rs 0 ≡ Some r) = item_at rs 0 some in
    lane_goes v 0 (lane_of v 0) first.0 (slice_get-get_or v.lanes 0 no_lane lanes) first.1
    (all_at is_marked rs 0 first.0 (device.valid.lanes 0).marked first.1)
    (λ _. head_reached w h v first.0 most device within (head_is v first.0 device.valid first.1))

first_goes : (w : World) (h : List Event) (v : VkState) (free : ℕ) → HasOneQueueAtMost w → IsRunButWords w h → IsDevice w h v → 0 < length w.queues → 0 < length (called_of (state_after w h).desk 0) →
    0 < length (enabled_of w h Clean v free)
first_goes w h v free most run device within some =
    let less : counter h 0 < length (operations w h 0) =
    omega (arith, some, ap length (called_now w h run within), length-drop (counter h 0) (operations w h 0)) in
    elim (cases_lt (submitted_of v 0) (length (operations w h 0))) [
      | inl more ↦ worker_goes w h v free 0 within more
      | inr all ↦ device_goes w h v free (submitted_go w h v most device within less all)
    ]

-- while an operation is called and incomplete, a step is enabled
pub queue_goes : (w : World) (h : List Event) (v : VkState) (free q : ℕ) → HasOneQueueAtMost w → IsRunButWords w h → IsDevice w h v → q < length w.queues →
    0 < length (called_of (state_after w h).desk q) → 0 < length (enabled_of w h Clean v free)
queue_goes w h v free q most run device within some =
    at_first (λ p. 0 < length (called_of (state_after w h).desk p) → 0 < length (enabled_of w h Clean v free)) q (length w.queues) within
    (omega (arith, within, most.few_queues)) (first_goes w h v free most run device (omega (arith, within))) some

-- where the Direct3D machine can go on, the system has a step
pub machine_goes : (w : World) (h : List Event) (v : VkState) (free : ℕ) → HasOneQueueAtMost w → IsRunButWords w h → IsDevice w h v → CanGoOn w h → 0 < length (enabled_of w h Clean v free)
machine_goes w h v free most run device (inl ready) = thread_goes w h v free ready.0 ready.1 ready.2
machine_goes w h v free most run device (inr called) = queue_goes w h v free called.0 most run device called.1 called.2
