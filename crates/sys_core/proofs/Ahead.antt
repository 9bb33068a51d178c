-- Words with what the device has yet to do stay the machine's memory with what it has yet to complete.
use Rattle.std.proofs.Common.{ℕ, zero, suc, ◌≡◌, ◌<◌, ◌≤◌, ◌-◌, ◌∙◌, sym, ap, refl, arith, List, [], ◌∷◌, ◌++◌, length, drop, map, replicate, Some, None, Option, Bool, true, false, slice_get, get_or, append-nil}
use Rattle.std.specs.List.{list_all}
use Rattle.std.specs.Prelude.{nat_lt, if◌then◌else◌}
use Rattle.std.proofs.lemmas.List.{drop-append-le, length-drop, length-map}
use Rattle.dx_base.specs.Lists.{changed_at}
use Rattle.dx_base.proofs.Lists.{and_both}
use Rattle.dx_base.specs.declared.ids.ThreadId.{ThreadId}
use Rattle.dx_base.specs.declared.kinds.ListType.{ListType}
use Rattle.d3d_machine.specs.declared.world.World.{World}
use Rattle.d3d_machine.specs.declared.world.Resource.{Resource}
use Rattle.d3d_machine.specs.declared.world.Resource.TheVariants.{Buffer}
use Rattle.d3d_machine.specs.declared.events.Operation.{Operation}
use Rattle.d3d_machine.specs.declared.events.Event.{Event}
use Rattle.d3d_machine.specs.declared.events.Event.TheVariants as event
use Rattle.d3d_machine.specs.State.{State, first_state, zeros, called_of}
use Rattle.d3d_machine.specs.Effects.{memory_after, memory_after_operation, head_of, after, after_all, desk_after}
use Rattle.d3d_machine.specs.Play.{IsRunButWords, SameButWords, state_after}
use Rattle.d3d_machine.specs.Good.{is_good_operation}
use Rattle.d3d_machine.proofs.Good.{operations_are_good}
use Rattle.d3d_machine.specs.Operations.{operations, counter, completions_by, called_by}
use Rattle.d3d_machine.proofs.Operations.{operations_append, counter_append, called_after, called_step, HoldsRest}
use Rattle.d3d_machine.proofs.Runs.{state_after_append}
use Rattle.vk_types.specs.declared.batches.Batch.{Batch}
use Rattle.vk_types.specs.declared.commands.VkCommand.{VkCommand}
use Rattle.vk_port.specs.declared.lanes.Running.{Running}
use Rattle.vk_port.specs.After.{lane_after_submit}
use Rattle.vk_port.specs.Enabled.{unmarked}
use Rattle.vk_port.specs.Journal.{of_queue}
use Rattle.vk_port.specs.Words.{first_words}
use Rattle.vk_port.specs.Valid.{IsLane, batch_of}
use Rattle.vk_port.specs.VkState.{VkState, lane_of, no_lane}
use Rattle.vk_port.specs.VkState as vulkan
use Rattle.vk_port.proofs.Lists.{item_at}
use Rattle.sys_core.specs.Lowering.{plan_buffers, plan_of_world, startup}
use Rattle.sys_core.specs.Memory.{spread, memory_of}
use Rattle.sys_core.specs.Stands.{StandsAt}
use Rattle.sys_core.specs.Steps.{submitted_of}
use Rattle.sys_core.proofs.Startup.{after_submissions, opened_view}
use Rattle.sys_core.specs.Consistent.{IsDevice}
use Rattle.sys_core.specs.Ahead.{run_commands, batches_undone, memory_ahead, held_commands, AreAhead, IsQuiet}
use Rattle.sys_core.proofs.Standing.{submitted_is}
use Rattle.sys_core.proofs.Undone.{run_append, ahead_append}
use Rattle.sys_core.proofs.Effect.{run_length, held_is_effect}
use Rattle.sys_core.proofs.Startup.{begins_of}

-- a fact of all holds of those past the first
all_drop : {A : Type 0} (p : A → Bool) (n : ℕ) (xs : List A) → list_all p xs ≡ true → list_all p (drop n xs) ≡ true
all_drop p zero xs all = all
all_drop p (suc n) [] all = refl
all_drop p (suc n) (x ∷ xs) all = all_drop p n xs (and_both (p x) (list_all p xs) all).1

-- the claim, with the commands of the operations that are not submitted in place of what they do
pub ahead_in_commands : (w : World) (h : List Event) (v : VkState) (words : List (List ℕ)) → length words ≡ length (plan_buffers w.resources) → AreAhead w h v words →
    memory_of w (run_commands (batches_undone (lane_of v 0).batches ++ held_commands w (drop (submitted_of v 0) (operations w h 0))) words)
    ≡ memory_ahead (drop (counter h 0) (operations w h 0)) (state_after w h).memory
ahead_in_commands w h v words long is =
    let us : List VkCommand = batches_undone (lane_of v 0).batches in
    let os : List Operation = drop (submitted_of v 0) (operations w h 0) in
    let good : list_all (is_good_operation w) os ≡ true = all_drop (is_good_operation w) (submitted_of v 0) (operations w h 0) (operations_are_good w h 0) in
    ap (memory_of w) (run_append us (held_commands w os) words)
    ∙ held_is_effect w os (run_commands us words) (run_length us words ∙ long) good ∙ is.ahead

-- zeros everywhere
abbrev pub first_buffers : World → List (List ℕ)
first_buffers w = map first_words (plan_buffers w.resources)

first_memory : (rs : List (Option Resource)) → spread rs (map first_words (plan_buffers rs)) ≡ map zeros rs
first_memory [] = refl
first_memory (None ∷ rs) = ap (λ ms. [] ∷ ms) (first_memory rs)
first_memory (Some (Buffer h n) ∷ rs) = ap (λ ms. replicate n 0 ∷ ms) (first_memory rs)

nothing_to_do : (n : ℕ) (b : Batch) → b.commands ≡ [] → batches_undone (get_or (changed_at (lane_after_submit b) 0 (replicate n no_lane)) 0 no_lane).batches ≡ []
nothing_to_do zero b none = refl
nothing_to_do (suc n) b none = ap (λ cs. unmarked cs (replicate (length b.commands) false) ++ []) none

no_lanes : (n : ℕ) → batches_undone (get_or (replicate n no_lane) 0 no_lane).batches ≡ []
no_lanes zero = refl
no_lanes (suc n) = refl

-- the start
pub ahead_first : (w : World) → AreAhead w [] (opened_view w) (first_buffers w)
ahead_first w = by_test (nat_lt 0 (length w.queues))
  where
    by_test : (t : Bool) → AreAhead w [] (after_submissions (vulkan.first_state (plan_of_world w)) (if t then startup w ∷ [] else [])) (first_buffers w)
    by_test true = record {
      ahead = ap (λ cs. memory_of w (run_commands cs (first_buffers w))) (nothing_to_do (length w.queues) (startup w) refl) ∙ first_memory w.resources;
    }
    by_test false = record {
      ahead = ap (λ cs. memory_of w (run_commands cs (first_buffers w))) (no_lanes (length w.queues)) ∙ first_memory w.resources;
    }

-- what is submitted is called, and what is complete is submitted
pub record IsWithin (w : World) (h : List Event) (v : VkState) : Type 0 where
  pub submitted : submitted_of v 0 ≤ length (operations w h 0)
  pub complete : counter h 0 ≤ submitted_of v 0

-- a device that stands keeps these bounds
pub device_within : (w : World) (h : List Event) (v : VkState) → IsDevice w h v → 0 < length w.queues → IsWithin w h v
device_within w h v is some =
    let at : StandsAt w h is.stands.rest v 0 = is.stands.queues 0 some in
    let count : submitted_of v 0 ≡ length (of_queue 0 is.stands.rest) = submitted_is w v is.stands.rest 0 (begins_of w h v is.stands some) at.numbered in
    record { submitted = omega (arith, count, at.of_called); complete = omega (arith, count, at.done) }

-- what the queue holds is what was called and is not complete
pub called_now : (w : World) (h : List Event) → IsRunButWords w h → 0 < length w.queues → called_of (state_after w h).desk 0 ≡ drop (counter h 0) (operations w h 0)
called_now w h run some =
    let first : (x : ListType) × (slice_get w.queues 0 ≡ Some x) = item_at w.queues 0 some in
    let holds : HoldsRest (state_after w h).desk 0 (counter h 0) (operations w h 0) = called_after SameButWords w 0 h first.0 first.1 run in
    ap (λ (o : Option (List Operation)). elim o [ None ↦ [] | Some x ↦ x ]) holds.rest

after_both : (w : World) (s : State) (h more : List Event) → after_all w s (h ++ more) ≡ after_all w (after_all w s h) more
after_both w s [] more = refl
after_both w s (e ∷ h) more = after_both w (after w s e) h more

-- the completion of the oldest called operation of the first queue
abbrev pub completion : Event
completion = event.Queue (record { 0 = 0 })

completed_memory : (w : World) (s : State) (os : List Operation) → slice_get s.desk.called 0 ≡ Some os →
    (after_all w s (replicate (length os) completion)).memory ≡ memory_ahead os s.memory
completed_memory w s [] is = refl
completed_memory w s (o ∷ os) is =
    let called : slice_get (desk_after w s.desk completion).called 0 ≡ Some os = called_step w s.desk 0 completion (o ∷ os) is ∙ ap (λ ys. Some ys) (append-nil os) in
    let head : head_of s.desk 0 ≡ Some o = ap (λ (ys : Option (List Operation)). slice_get (elim ys [ None ↦ [] | Some y ↦ y ]) 0) is in
    completed_memory w (after w s completion) os called ∙ ap (λ y. memory_ahead os (memory_after_operation s.memory y)) head

-- the claim, with the memory after the history and the completion of each called operation that is not complete
pub ahead_in_completions : (w : World) (h : List Event) (v : VkState) (words : List (List ℕ)) → IsRunButWords w h → length words ≡ length (plan_buffers w.resources) → 0 < length w.queues → AreAhead w h v words →
    memory_of w (run_commands (batches_undone (lane_of v 0).batches ++ held_commands w (drop (submitted_of v 0) (operations w h 0))) words)
    ≡ (state_after w (h ++ replicate (length (drop (counter h 0) (operations w h 0))) completion)).memory
ahead_in_completions w h v words run long some is =
    let os : List Operation = drop (counter h 0) (operations w h 0) in
    let first : (x : ListType) × (slice_get w.queues 0 ≡ Some x) = item_at w.queues 0 some in
    let holds : HoldsRest (state_after w h).desk 0 (counter h 0) (operations w h 0) = called_after SameButWords w 0 h first.0 first.1 run in
    ahead_in_commands w h v words long is ∙ sym (completed_memory w (state_after w h) os holds.rest)
    ∙ ap (λ (s : State). s.memory) (sym (after_both w (first_state w) h (replicate (length os) completion)))

-- an event that completes nothing, where words and memory change alike
pub ahead_event : (w : World) (h : List Event) (e : Event) (v : VkState) (words : List (List ℕ)) → IsWithin w h v → completions_by 0 e ≡ 0 →
    memory_ahead (drop (submitted_of v 0) (operations w h 0)) (memory_of w (run_commands (batches_undone (lane_of v 0).batches) words))
    ≡ memory_ahead (drop (counter h 0) (operations w h 0)) (memory_after w (state_after w h) e) → AreAhead w (h ++ e ∷ []) v words
ahead_event w h e v words within none same =
    let os : List Operation = operations w h 0 in
    let by : List Operation = called_by w (state_after w h).desk 0 e in
    let now : List Operation = operations w (h ++ e ∷ []) 0 in
    let s : ℕ = submitted_of v 0 in
    let c : ℕ = counter h 0 in
    let x : List (List ℕ) = memory_of w (run_commands (batches_undone (lane_of v 0).batches) words) in
    let m : List (List ℕ) = memory_after w (state_after w h) e in
    let all : now ≡ os ++ by = operations_append w (first_state w) 0 h e in
    let count : c ≡ counter (h ++ e ∷ []) 0 = omega (arith, counter_append 0 h e, none) in
    record {
      ahead = ap (λ xs. memory_ahead (drop s xs) x) all ∙ ap (λ xs. memory_ahead xs x) (drop-append-le s os by within.submitted)
          ∙ ahead_append (drop s os) by x ∙ ap (memory_ahead by) same ∙ sym (ahead_append (drop c os) by m)
          ∙ ap (λ xs. memory_ahead xs m) (sym (drop-append-le c os by (omega (arith, within.submitted, within.complete))))
          ∙ ap (λ xs. memory_ahead (drop c xs) m) (sym all) ∙ ap (λ k. memory_ahead (drop k now) m) count
          ∙ ap (λ (st : State). memory_ahead (drop (counter (h ++ e ∷ []) 0) now) st.memory) (sym (state_after_append w h e));
    }

-- a thread that wakes
pub ahead_awake : (w : World) (h : List Event) (v : VkState) (words : List (List ℕ)) (t : ThreadId) → IsWithin w h v → AreAhead w h v words → AreAhead w (h ++ event.Awake t ∷ []) v words
ahead_awake w h v words t within is = ahead_event w h (event.Awake t) v words within refl is.ahead

-- nothing is left to do: no command, no operation that is not submitted, none that is not complete
pub record IsIdle (w : World) (h : List Event) (v : VkState) : Type 0 where
  pub undone : batches_undone (lane_of v 0).batches ≡ []
  pub held : drop (submitted_of v 0) (operations w h 0) ≡ []
  pub called : drop (counter h 0) (operations w h 0) ≡ []

-- past the end nothing is left of a list
pub drop_past : {A : Type 0} (n : ℕ) (xs : List A) → length xs ≤ n → drop n xs ≡ []
drop_past zero [] le = refl
drop_past (suc n) [] le = refl
drop_past zero (x ∷ xs) le = absurd (omega arith)
drop_past (suc n) (x ∷ xs) le = drop_past n xs (omega arith)

only_startup : (n : ℕ) (b : Batch) (later : List Batch) (rs : List Running) → map batch_of rs ≡ drop n (b ∷ later) → n - 1 ≡ length later → b.commands ≡ [] → batches_undone rs ≡ []
only_startup n b later [] is all none = refl
only_startup zero b (c ∷ later) (r ∷ rs) is all none = absurd (omega arith)
only_startup zero b [] (r ∷ s ∷ rs) is all none = absurd (omega (arith, ap length is))
only_startup zero b [] (r ∷ []) is all none =
    let same : r.batch ≡ b = grind arith in
    let empty : r.batch.commands ≡ [] = ap (λ (x : Batch). x.commands) same ∙ none in
    ap (λ cs. unmarked cs r.done ++ []) empty
only_startup (suc n) b later (r ∷ rs) is all none =
    absurd (omega (arith, ap length is, ap length (drop_past n later (omega (arith, all)))))

-- where no called operation is incomplete, a device that stands has nothing left to do
pub quiet_is_idle : (w : World) (h : List Event) (v : VkState) → IsRunButWords w h → IsDevice w h v → 0 < length w.queues → IsQuiet (state_after w h) → IsIdle w h v
quiet_is_idle w h v run is some quiet =
    let rest : List Batch = is.stands.rest in
    let at : StandsAt w h rest v 0 = is.stands.queues 0 some in
    let lane : IsLane (of_queue 0 v.journal) (lane_of v 0) = is.valid.lanes 0 in
    let journal : v.journal ≡ startup w ∷ rest = begins_of w h v is.stands some in
    let begins : of_queue 0 v.journal ≡ startup w ∷ of_queue 0 rest = ap (of_queue 0) journal in
    let within : IsWithin w h v = device_within w h v is some in
    let called : drop (counter h 0) (operations w h 0) ≡ [] = sym (called_now w h run some) ∙ quiet.none_called 0 in
    let through : length (operations w h 0) - counter h 0 ≡ 0 = sym (length-drop (counter h 0) (operations w h 0)) ∙ ap length called in
    let count : submitted_of v 0 ≡ length (of_queue 0 rest) = submitted_is w v rest 0 journal at.numbered in
    let long : length (lane_of v 0).batches ≡ length (of_queue 0 v.journal) - lane.finished = sym (length-map (lane_of v 0).batches batch_of) ∙ ap length lane.are_last ∙ length-drop lane.finished (of_queue 0 v.journal) in
    let all : lane.finished - 1 ≡ length (of_queue 0 rest) =
    omega (arith, is.finished 0 some, long, lane.ended, ap length begins, within.submitted, within.complete, through, count) in
    record {
      undone = only_startup lane.finished (startup w) (of_queue 0 rest) (lane_of v 0).batches (lane.are_last ∙ ap (drop lane.finished) begins) all refl;
      held = drop_past (submitted_of v 0) (operations w h 0) (omega (arith, through, within.complete));
      called = called;
    }

-- where nothing is left to do, words that are ahead are the machine's memory
pub idle_words : (w : World) (h : List Event) (v : VkState) (words : List (List ℕ)) → AreAhead w h v words → IsIdle w h v → memory_of w words ≡ (state_after w h).memory
idle_words w h v words is idle =
    ap (λ cs. memory_of w (run_commands cs words)) (sym idle.undone)
    ∙ ap (λ os. memory_ahead os (memory_of w (run_commands (batches_undone (lane_of v 0).batches) words))) (sym idle.held)
    ∙ is.ahead ∙ ap (λ os. memory_ahead os (state_after w h).memory) idle.called
