-- The steps of the system, and what each does to the history and to the device.
use Rattle.std.specs.Prelude.{ℕ, zero, suc, ◌≡◌, ◌≤◌, ◌<◌, ◌+◌, ◌-◌, ◌^◌, ◌==◌, min, nat_lt, List, [], ◌∷◌, ◌++◌, length, slice_get, Option, Some, None, Bool, true, if◌then◌else◌}
use Rattle.dx_base.specs.declared.steps.Step.{Step}
use Rattle.dx_base.specs.declared.steps.Step.TheVariants as step
use Rattle.verdicts.specs.declared.rules.Verdict.{Verdict}
use Rattle.verdicts.specs.declared.rules.Verdict.TheVariants.{Clean, Broken}
use Rattle.d3d_machine.specs.declared.world.World.{World}
use Rattle.d3d_machine.specs.declared.calls.Call.{Call}
use Rattle.d3d_machine.specs.declared.events.Event.{Event}
use Rattle.d3d_machine.specs.declared.events.Event.TheVariants as event
use Rattle.d3d_machine.specs.State.{Place, place_of, script_of}
use Rattle.d3d_machine.specs.Play.{state_after}
use Rattle.d3d_machine.specs.declared.events.Operation.{Operation}
use Rattle.d3d_machine.specs.Operations.{operations}
use Rattle.vk_port.specs.declared.steps.Stepped.{Stepped}
use Rattle.vk_port.specs.declared.steps.Stepped.TheVariants as stepped
use Rattle.vk_types.specs.declared.batches.Batch.{Batch}
use Rattle.vk_types.specs.declared.steps.VkStep.TheVariants.{Submit}
use Rattle.vk_sync_rules.specs.Rules.{after_step}
use Rattle.vk_sync_rules.specs.VkState.{VkState as Machine}
use Rattle.vk_port.specs.Journal.{next_number}
use Rattle.vk_port.specs.Machine.{shown, after_stepped}
use Rattle.vk_port.specs.Offers.{steps_offered}
use Rattle.vk_port.specs.VkState.{VkState}
use Rattle.vk_port.specs.Enabled.{enabled_steps}
use Rattle.sys_core.specs.Lowering.{lowered}

-- a thread's step is enabled where it does not wait and its script has a next call, or its wait is met
abbrev pub is_ready_place : List Call → Place → Bool
is_ready_place script p = elim p.waits [ None ↦ nat_lt p.made (length script) | Some x ↦ x.marked ]

abbrev pub is_ready_thread : World → List Event → ℕ → Bool
is_ready_thread w h t = is_ready_place (script_of w t) (place_of (state_after w h).desk t)

-- how many operations of a queue are submitted
abbrev pub submitted_of : VkState → ℕ → ℕ
submitted_of v q = next_number q v.journal - 1

-- a worker's step is enabled where its queue has an operation that is not submitted
abbrev pub is_ready_worker : World → List Event → VkState → ℕ → Bool
is_ready_worker w h v q = nat_lt (submitted_of v q) (length (operations w h q))

-- the steps of those from number n on, so many of them, that pass a test
abbrev pub steps_where : (ℕ → Bool) → (ℕ → Step) → ℕ → ℕ → List Step
steps_where test make n zero = []
steps_where test make n (suc k) = (if test n then make n ∷ [] else []) ++ steps_where test make (n + 1) k

abbrev pub always : ℕ → Bool
always n = true

-- how many of the device's steps have a number: a step names its place by 32 bits
abbrev pub numbered : ℕ → ℕ
numbered n = min n (2 ^ 32)

-- behind a broken verdict nothing is enabled
abbrev pub unless_broken : Verdict → List Step → List Step
unless_broken Clean steps = steps
unless_broken (Broken r n) steps = []

-- all enabled steps in order, by the verdict so far: threads, workers, then the device's steps
abbrev pub enabled_of : World → List Event → Verdict → VkState → ℕ → List Step
enabled_of w h x v free =
    unless_broken x
    (steps_where (is_ready_thread w h) (λ t. step.Thread t) 0 (length w.scripts)
    ++ (steps_where (is_ready_worker w h v) (λ q. step.Worker q) 0 (length w.queues)
    ++ steps_where always (λ k. step.Device k) 0 (numbered (steps_offered v free))))

-- a step can be taken: its thread can go on, its queue has an operation that is not submitted, or the device offers it
abbrev pub CanBeTaken : World → List Event → VkState → ℕ → Step → Type 0
CanBeTaken w h v free (step.Thread t) = (t < length w.scripts) × (is_ready_thread w h t ≡ true)
CanBeTaken w h v free (step.Worker q) = (q < length w.queues) × (is_ready_worker w h v q ≡ true)
CanBeTaken w h v free (step.Device k) = k < steps_offered v free

-- the event of a device's step: the end of an operation's batch completes the operation
abbrev pub step_events : Stepped → List Event
step_events (stepped.Passed q n) = []
step_events (stepped.Ran q n k) = []
step_events (stepped.Bumped q n) = if n == 0 then [] else event.Queue (record { 0 = q }) ∷ []
step_events stepped.Free = []

-- the batch that a worker's step submits: that of the queue's next operation
abbrev pub next_batch : World → List Event → VkState → ℕ → Option Operation → List Batch
next_batch w h v q None = []
next_batch w h v q (Some o) = lowered w h v.journal q (submitted_of v q + 1) o ∷ []

abbrev pub submitted_batches : World → List Event → VkState → ℕ → List Batch
submitted_batches w h v q = next_batch w h v q (slice_get (operations w h q) (submitted_of v q))

-- the machine after batches were submitted
abbrev pub after_submits : Machine → List Batch → Machine
after_submits m [] = m
after_submits m (b ∷ bs) = after_submits (after_step m (Submit b)) bs

-- a step of the device: of the Vulkan machine where its place is one of that machine's steps, else a free one
pub record IsDeviceStep (h after : List Event) (m n : Machine) (k : ℕ) : Type 0 where
  pub step : Stepped
  pub named : k < length (enabled_steps (shown m)) → slice_get (enabled_steps (shown m)) k ≡ Some step
  pub free : length (enabled_steps (shown m)) ≤ k → step ≡ stepped.Free
  pub machine : n ≡ after_stepped m step []
  pub history : after ≡ h ++ step_events step
