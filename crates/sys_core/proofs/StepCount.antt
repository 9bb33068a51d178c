-- How each step counts.
use Rattle.std.proofs.Common.{ℕ, zero, suc, ◌≡◌, ◌<◌, ◌≤◌, ◌+◌, ◌∙◌, ap, subst, sym, refl, arith, List, [], ◌∷◌, ◌++◌, length, Some, Bool, true, false, replicate, append-nil, ◌⊎◌, inl, inr}
use Rattle.std.specs.Prelude.{if◌then◌else◌, nat_lt, ◌==◌}
use Rattle.std.proofs.lemmas.Bool.Decides.{leb_tells, nat_tests}
use Rattle.std.proofs.lemmas.Bool.{ltb-true}
use Rattle.std.proofs.lemmas.List.{length-append, length-replicate}
use Rattle.std.specs.List.{slice_get}
use Rattle.dx_base.specs.declared.steps.Step.TheVariants as step
use Rattle.dx_base.specs.declared.ids.QueueId.{QueueId}
use Rattle.dx_base.specs.declared.ids.ThreadId.{ThreadId}
use Rattle.d3d_machine.specs.declared.world.World.{World}
use Rattle.d3d_machine.specs.declared.calls.Call.{Call}
use Rattle.d3d_machine.specs.declared.calls.Reply.{Reply}
use Rattle.d3d_machine.specs.declared.events.Event.{Event}
use Rattle.d3d_machine.specs.declared.events.Event.TheVariants as event
use Rattle.vk_types.specs.declared.batches.Batch.{Batch}
use Rattle.vk_port.specs.declared.steps.Stepped.{Stepped}
use Rattle.vk_port.specs.declared.steps.Stepped.TheVariants as stepped
use Rattle.vk_port.specs.After.{after_step, after_submit}
use Rattle.vk_port.specs.Enabled.{enabled_steps}
use Rattle.vk_port.specs.Left.{steps_left, lanes_left}
use Rattle.vk_port.specs.Offers.{rest_taken}
use Rattle.vk_port.specs.Valid.{IsValid}
use Rattle.vk_port.specs.VkState.{VkState, no_lane, first_state}
use Rattle.vk_port.proofs.Enabled.{enabled_means, no_rest}
use Rattle.vk_port.proofs.Falls.{falls, submit_left}
use Rattle.vk_port.proofs.Valid.{first_valid}
use Rattle.sys_core.specs.Goes.{SysState, tally}
use Rattle.sys_core.specs.Lowering.{plan_of_world, startup}
use Rattle.vk_port.specs.Machine.{shown}
use Rattle.sys_core.specs.Opened.{opened}
use Rattle.sys_core.specs.Steps.{step_events}
use Rattle.sys_core.proofs.MachineSteps.{machine_open}
use Rattle.sys_core.proofs.Startup.{after_submissions}
use Rattle.sys_core.specs.StepCount.{rest_used, count_calls, count_wakings, batches_steps, AreCounted}

-- the events of threads in a history
abbrev pub count_events : List Event → ℕ
count_events h = count_calls h + count_wakings h

-- a history that goes on by one event
count_more : (h : List Event) (e : Event) → count_events (h ++ e ∷ []) ≡ count_events h + count_events (e ∷ [])
count_more [] e = omega arith
count_more (event.Call t c r ∷ h) e = omega (arith, count_more h e)
count_more (event.Awake t ∷ h) e = omega (arith, count_more h e)
count_more (event.Queue q ∷ h) e = omega (arith, count_more h e)

pub count_call : (h : List Event) (t : ThreadId) (c : Call) (r : Reply) → count_events (h ++ event.Call t c r ∷ []) ≡ count_events h + 1
count_call h t c r = omega (arith, count_more h (event.Call t c r))

pub count_awake : (h : List Event) (t : ThreadId) → count_events (h ++ event.Awake t ∷ []) ≡ count_events h + 1
count_awake h t = omega (arith, count_more h (event.Awake t))

-- the end of a batch is no event of a thread
count_end : (h : List Event) (b : Bool) (q : QueueId) → count_events (h ++ (if b then [] else event.Queue q ∷ [])) ≡ count_events h
count_end h true q = ap count_events (append-nil h)
count_end h false q = omega (arith, count_more h (event.Queue q))

count_step : (h : List Event) (s : Stepped) → count_events (h ++ step_events s) ≡ count_events h
count_step h (stepped.Passed q n) = ap count_events (append-nil h)
count_step h (stepped.Ran q n k) = ap count_events (append-nil h)
count_step h (stepped.Bumped q n) = count_end h (n == 0) (record { 0 = q })
count_step h stepped.Free = ap count_events (append-nil h)

steps_more : (bs : List Batch) (b : Batch) → batches_steps (bs ++ b ∷ []) ≡ batches_steps bs + (2 + length b.commands)
steps_more [] b = omega arith
steps_more (x ∷ bs) b = omega (arith, steps_more bs b)

-- what counts for a thread's event, on a device whose batches stay
pub thread_counts : (h k : List Event) (v u : VkState) (a b : ℕ) → count_events k ≡ count_events h + 1 → u.journal ≡ v.journal → u.lanes ≡ v.lanes → b ≡ a →
    (tally k u + steps_left v) + a ≡ (tally h v + steps_left u) + (b + 1)
thread_counts h k v u a b more journal lanes same =
    omega (arith, more, ap length journal, ap batches_steps journal, ap lanes_left lanes, same)

-- what counts for a submission
pub submit_counts : (h : List Event) (v : VkState) (batch : Batch) (a b : ℕ) → IsValid v → batch.queue < length v.lanes → b ≡ a →
    (tally h (after_submit v batch) + steps_left v) + a ≡ (tally h v + steps_left (after_submit v batch)) + (b + 1)
submit_counts h v batch a b valid lane same =
    omega (arith, submit_left v batch valid lane, steps_more v.journal batch, length-append v.journal (batch ∷ []), same)

step_keeps : (v : VkState) (s : Stepped) → (after_step v s).journal ≡ v.journal
step_keeps v (stepped.Passed q n) = refl
step_keeps v (stepped.Ran q n k) = refl
step_keeps v (stepped.Bumped q n) = refl
step_keeps v stepped.Free = refl

-- what counts for a step of the Vulkan machine
pub device_counts : (h : List Event) (v : VkState) (k : ℕ) (s : Stepped) (a b : ℕ) → IsValid v → slice_get (enabled_steps v) k ≡ Some s → a ≡ b →
    (tally (h ++ step_events s) (after_step v s) + steps_left v) + a
    ≡ (tally h v + steps_left (after_step v s)) + (b + 1)
device_counts h v k s a b valid is same =
    omega (arith, falls v valid k s is, count_step h s, ap length (step_keeps v s), ap batches_steps (step_keeps v s), same)

-- a place is among so many, or past them
pub among : (k n : ℕ) → ((nat_lt k n ≡ true) × (k < n)) ⊎ ((nat_lt k n ≡ false) × (n ≤ k))
among k n =
    elim (leb_tells n k) [
      | inl past ↦ let no : nat_lt k n ≡ false = grind (arith, nat_tests, past.1) in inr (no, past.1)
      | inr within ↦ let yes : nat_lt k n ≡ true = grind (arith, nat_tests, within.1) in inl (yes, within.1)
    ]

-- the free steps that a step of the device takes, by its place
pub rest_is : (v : VkState) (k : ℕ) (s : Stepped) (a b : ℕ) → (k < length (enabled_steps v) → slice_get (enabled_steps v) k ≡ Some s) →
    (length (enabled_steps v) ≤ k → s ≡ stepped.Free) → a ≡ b + rest_taken s → a ≡ b + rest_used v (step.Device k)
rest_is v k s a b named free rest =
    elim (among k (length (enabled_steps v))) [
      | inl within ↦ rw within.0 (rest ∙ ap (λ n. b + n) (no_rest v s (enabled_means v k s (named within.1))))
      | inr past ↦ rw past.0 (rest ∙ ap (λ x. b + rest_taken x) (free past.1))
    ]

-- no batch is left of lanes without any
none_left : (n : ℕ) → lanes_left (replicate n no_lane) ≡ 0
none_left zero = refl
none_left (suc n) = omega (arith, none_left n)

-- before any step
pub counted_first : (w : World) (rest : ℕ) → AreCounted w rest rest 0 [] (shown (opened w))
counted_first w rest = subst (AreCounted w rest rest 0 []) (sym (machine_open w).1) (record { equation = by_queue (nat_lt 0 (length w.queues)) refl })
  where
    first : VkState
    first = first_state (plan_of_world w)

    submitted : Bool → List Batch
    submitted some = if some then startup w ∷ [] else []

    by_queue : (some : Bool) → nat_lt 0 (length w.queues) ≡ some →
        (0 + steps_left (after_submissions first (submitted some))) + (rest + length (submitted some))
        ≡ (0 + 0) + (length (after_submissions first (submitted some)).journal + batches_steps (after_submissions first (submitted some)).journal) + rest
    by_queue false none = omega (arith, none_left (length w.queues))
    by_queue true some =
        let lane : 0 < length (replicate (length w.queues) no_lane) = omega (arith, length-replicate (length w.queues) no_lane, ltb-true 0 (length w.queues) some) in
        omega (arith, none_left (length w.queues), submit_left first (startup w) (first_valid (plan_of_world w)) lane)

-- one step more
pub counted_more : (w : World) (rest before after steps more : ℕ) (s u : SysState) → more ≡ steps + 1 → AreCounted w rest before steps s.history (shown s.machine) →
    (tally u.history (shown u.machine) + steps_left (shown s.machine)) + before ≡ (tally s.history (shown s.machine) + steps_left (shown u.machine)) + (after + 1) → AreCounted w rest after more u.history (shown u.machine)
counted_more w rest before after steps more s u one counted counts = record { equation = omega (arith, one, counted.equation, counts) }
