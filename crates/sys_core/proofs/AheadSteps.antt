-- What a call, a submission and a step of the device leave of the words ahead.
use Rattle.std.proofs.Common.{ℕ, ◌≡◌, ◌<◌, ◌+◌, ◌-◌, ◌∙◌, sym, ap, subst, refl, arith, List, [], ◌∷◌, ◌++◌, length, drop, Some, None, Option, Bool, true, false, is_some, ◌||◌, append-nil, inl, inr, slice_get, get_or}
use Rattle.std.specs.Prelude.{◌==◌, ◌/◌, if◌then◌else◌}
use Rattle.std.proofs.lemmas.Bool.{cases_Bool}
use Rattle.std.proofs.lemmas.List.{drop-drop}
use Rattle.std.proofs.lemmas.Option.{slice_get_within, get_or_from_slice_get, slice_get-get_or}
use Rattle.dx_base.specs.Lists.{changed_at, put}
use Rattle.dx_base.specs.declared.ids.ThreadId.{ThreadId}
use Rattle.dx_base.specs.declared.ids.QueueId.{QueueId}
use Rattle.dx_base.specs.declared.hresult.Hresult.{Hresult}
use Rattle.dx_base.proofs.Lists.{get_or_changed}
use Rattle.d3d_machine.specs.declared.world.World.{World}
use Rattle.d3d_machine.specs.declared.calls.Call.{Call}
use Rattle.d3d_machine.specs.declared.calls.Call.TheVariants as call
use Rattle.d3d_machine.specs.declared.world.Resource.{Resource}
use Rattle.dx_base.specs.Effects.{At, unless}
use Rattle.d3d_machine.specs.CallEffects.{does}
use Rattle.d3d_machine.specs.declared.calls.Reply.{Reply}
use Rattle.d3d_machine.specs.declared.events.Listed.{Listed}
use Rattle.d3d_machine.specs.declared.events.Operation.{Operation}
use Rattle.d3d_machine.specs.declared.events.Event.{Event}
use Rattle.d3d_machine.specs.declared.events.Event.TheVariants as event
use Rattle.d3d_machine.specs.World.{HasOneQueueAtMost, resource_of}
use Rattle.d3d_machine.specs.State.{State, first_state}
use Rattle.d3d_machine.specs.Replies.{refusal, refusal_by}
use Rattle.d3d_machine.specs.Effects.{done, memory_by, memory_after, memory_after_operation}
use Rattle.d3d_machine.specs.Play.{IsRunButWords, state_after}
use Rattle.d3d_machine.specs.Operations.{operations, counter}
use Rattle.d3d_machine.specs.Good.{is_good_operation}
use Rattle.d3d_machine.proofs.Good.{operations_are_good}
use Rattle.d3d_machine.proofs.Named.{all_at}
use Rattle.d3d_machine.proofs.Operations.{operations_append, counter_append}
use Rattle.d3d_machine.proofs.Runs.{state_after_append}
use Rattle.vk_types.specs.declared.batches.Batch.{Batch}
use Rattle.vk_types.specs.declared.commands.VkCommand.{VkCommand}
use Rattle.vk_port.specs.declared.lanes.Lane.{Lane}
use Rattle.vk_port.specs.declared.lanes.Running.{Running}
use Rattle.vk_port.specs.declared.steps.Stepped.{Stepped}
use Rattle.vk_port.specs.declared.steps.Stepped.TheVariants.{Passed, Ran, Bumped, Free}
use Rattle.vk_port.specs.After.{after_found, command_at, found_commands, place_of, with_done, lane_after_run, lane_after_pass, lane_after_bump, lane_after_submit, started, after_step, after_submit}
use Rattle.vk_port.specs.Enabled.{passes, commands, bumps, enabled_steps}
use Rattle.vk_port.specs.Journal.{of_queue, number_after}
use Rattle.vk_port.specs.Meaning.{IsEnabled, IsBump}
use Rattle.vk_port.specs.Words.{words_after}
use Rattle.vk_port.specs.Valid.{IsValid}
use Rattle.vk_port.specs.VkState.{VkState, lane_of, no_lane}
use Rattle.vk_port.proofs.Falls.{valid_place, unmarked_all}
use Rattle.vk_port.proofs.Enabled.{enabled_means}
use Rattle.sys_core.specs.Lowering.{plan_buffers, plan_number, lowered_commands}
use Rattle.sys_core.specs.Memory.{memory_of}
use Rattle.sys_core.specs.Steps.{submitted_of, step_events}
use Rattle.sys_core.specs.Consistent.{IsDevice}
use Rattle.sys_core.specs.Ahead.{run_commands, batches_undone, memory_ahead, AreAhead, IsQuiet, is_good_access}
use Rattle.sys_core.proofs.Standing.{of_queue_append}
use Rattle.sys_core.proofs.Holding.{drop_here}
use Rattle.sys_core.proofs.Inside.{write_lives}
use Rattle.sys_core.proofs.Spread.{memory_changed}
use Rattle.sys_core.proofs.Effect.{run_length, lowered_is_effect}
use Rattle.sys_core.proofs.Undone.{run_append, ahead_first_one, undone_append, undone_behind}
use Rattle.sys_core.specs.InOrder.{are_in_order}
use Rattle.sys_core.proofs.Runnable.{IsNextIn, next_ran}
use Rattle.sys_core.proofs.Orderly.{order_tail}
use Rattle.sys_core.proofs.Ahead.{device_within, called_now, ahead_event, IsIdle, quiet_is_idle, idle_words}
use Rattle.sys_core.proofs.Work.{number_behind}

-- where nothing is read or written, or the call is refused
abbrev IsNoAccess : Option Hresult → Bool → Type 0
IsNoAccess None access = access ≡ false
IsNoAccess (Some e) access = Unit {0}

not_good : (r : Option Hresult) (c : Call) → is_good_access r c ≡ false → IsNoAccess r (is_some (does c).reads || is_some (does c).stores)
not_good None c none = none
not_good (Some e) c none = tt

stays : (r : Option Hresult) (x : Option (At (ℕ × ℕ))) (o : Option (At (ℕ × List ℕ))) (m : List (List ℕ)) → IsNoAccess r (is_some x || is_some o) → memory_by (unless o r) m ≡ m
stays r x None m none = refl
stays (Some e) x (Some o) m none = refl
stays None None (Some o) m none = absurd (cc)
stays None (Some x) (Some o) m none = absurd (cc)

-- words after some were stored in a buffer, at the buffer's number
abbrev pub words_stored : World → Option (At (ℕ × List ℕ)) → List (List ℕ) → List (List ℕ)
words_stored w None ws = ws
words_stored w (Some x) ws = changed_at (put x.what.0 x.what.1) (plan_number w x.place) ws

unmoved : (w : World) (r : Option Hresult) (x : Option (At (ℕ × ℕ))) (o : Option (At (ℕ × List ℕ))) (ws : List (List ℕ)) → IsNoAccess r (is_some x || is_some o) → words_stored w (unless o r) ws ≡ ws
unmoved w r x None ws none = refl
unmoved w (Some e) x (Some o) ws none = refl
unmoved w None None (Some o) ws none = absurd (cc)
unmoved w None (Some x) (Some o) ws none = absurd (cc)

-- what a call stores on the device is what it stores in the memory
pub memory_stored : (w : World) (lists : List Listed) (c : Call) (ws : List (List ℕ)) → length ws ≡ length (plan_buffers w.resources) →
    memory_of w (words_stored w (done w lists c).stores ws) ≡ memory_by (done w lists c).stores (memory_of w ws)
memory_stored w lists c ws long = by_refusal c (refusal_by w lists c) refl
  where
    by_refusal : (c : Call) (r : Option Hresult) → refusal_by w lists c ≡ r → memory_of w (words_stored w (unless (does c).stores r) ws) ≡ memory_by (unless (does c).stores r) (memory_of w ws)
    by_refusal (call.Recording l what) r is = refl
    by_refusal (call.Close l) r is = refl
    by_refusal (call.Reset l a) r is = refl
    by_refusal (call.Execute q ls) r is = refl
    by_refusal (call.Signal q f n) r is = refl
    by_refusal (call.HostSignal f n) r is = refl
    by_refusal (call.HostWait f n) r is = refl
    by_refusal (call.Value f) r is = refl
    by_refusal (call.Read b offset bytes) r is = refl
    by_refusal (call.Write b offset new) (Some e) is = refl
    by_refusal (call.Write b offset new) None is =
        let lives : (r : Resource) × (resource_of w b.0 ≡ Some r) = write_lives w b.0 offset (length new) is in
        memory_changed w (put (offset / 4) new) b.0 lives.0 ws long lives.1

-- a call that is served: where it is a host access, no called operation is incomplete
pub ahead_call : (w : World) (h : List Event) (v : VkState) (words : List (List ℕ)) (t : ThreadId) (c : Call) (r : Reply) →
    IsRunButWords w h → IsDevice w h v → 0 < length w.queues → length words ≡ length (plan_buffers w.resources) →
    ((is_good_access (refusal w (state_after w h).desk c) c ≡ true) → IsQuiet (state_after w h)) → AreAhead w h v words →
    AreAhead w (h ++ event.Call t c r ∷ []) v (words_stored w (done w (state_after w h).desk.lists c).stores words)
ahead_call w h v words t c r run device some long quiet is =
    let m : List (List ℕ) = (state_after w h).memory in
    let no : Option Hresult = refusal w (state_after w h).desk c in
    let mine : List (List ℕ) = memory_of w words in
    let o : Option (At (ℕ × List ℕ)) = (done w (state_after w h).desk.lists c).stores in
    let now : List (List ℕ) = words_stored w o words in
    let us : List VkCommand = batches_undone (lane_of v 0).batches in
    let held : List Operation = drop (submitted_of v 0) (operations w h 0) in
    let called : List Operation = drop (counter h 0) (operations w h 0) in
    ahead_event w h (event.Call t c r) v now (device_within w h v device some) refl
    (elim (cases_Bool (is_good_access no c)) as (λ _. memory_ahead held (memory_of w (run_commands us now)) ≡ memory_ahead called (memory_by o m)) [
      | inl access ↦
          let idle : IsIdle w h v = quiet_is_idle w h v run device some (quiet access) in
          ap (λ cs. memory_ahead held (memory_of w (run_commands cs now))) idle.undone ∙ ap (λ os. memory_ahead os (memory_of w now)) idle.held
          ∙ memory_stored w (state_after w h).desk.lists c words long ∙ ap (memory_by o) (idle_words w h v words is idle)
          ∙ ap (λ os. memory_ahead os (memory_by o m)) (sym idle.called)
      | inr none ↦
          ap (λ ws. memory_ahead held (memory_of w (run_commands us ws))) (unmoved w no (does c).reads (does c).stores words (not_good no c none))
          ∙ is.ahead ∙ ap (memory_ahead called) (sym (stays no (does c).reads (does c).stores m (not_good no c none)))
    ])

one_more_submitted : (v : VkState) (b : Batch) → b.queue ≡ 0 → b.number ≡ submitted_of v 0 + 1 → submitted_of (after_submit v b) 0 ≡ submitted_of v 0 + 1
one_more_submitted v b queue number =
    let all : of_queue 0 (v.journal ++ b ∷ []) ≡ of_queue 0 v.journal ++ b ∷ [] =
    of_queue_append 0 v.journal b ∙ ap (λ q. of_queue 0 v.journal ++ (if (q == 0) then b ∷ [] else [])) queue in
    ap (λ bs. number_after 0 bs - 1) all ∙ omega (arith, number_behind 0 (of_queue 0 v.journal) b, number)

-- the submission of the next operation
pub ahead_submit : (w : World) (h : List Event) (v : VkState) (words : List (List ℕ)) (b : Batch) (o : Operation) → length words ≡ length (plan_buffers w.resources) → 0 < length v.lanes → slice_get (operations w h 0) (submitted_of v 0) ≡ Some o →
    b.queue ≡ 0 → b.number ≡ submitted_of v 0 + 1 → b.commands ≡ lowered_commands w o → AreAhead w h v words → AreAhead w h (after_submit v b) words
ahead_submit w h v words b o long some next queue number cs is =
    let os : List Operation = operations w h 0 in
    let s : ℕ = submitted_of v 0 in
    let rs : List Running = (lane_of v 0).batches in
    let us : List VkCommand = batches_undone rs in
    let good : is_good_operation w o ≡ true = all_at (is_good_operation w) os s o (operations_are_good w h 0) next in
    let x : List (List ℕ) = memory_of w (run_commands us words) in
    let lane : lane_of (after_submit v b) 0 ≡ lane_after_submit b (lane_of v 0) =
    ap (λ q. get_or (changed_at (lane_after_submit b) q v.lanes) 0 no_lane) queue ∙ get_or_changed (lane_after_submit b) v.lanes 0 no_lane some in
    let todo : batches_undone (lane_of (after_submit v b) 0).batches ≡ us ++ lowered_commands w o =
    ap (λ (l : Lane). batches_undone l.batches) lane ∙ undone_append rs (started b) ∙ ap (λ es. us ++ es) (unmarked_all b.commands ∙ cs) in
    let after : memory_of w (run_commands (batches_undone (lane_of (after_submit v b) 0).batches) words) ≡ memory_after_operation x (Some o) =
    ap (λ es. memory_of w (run_commands es words)) todo ∙ ap (memory_of w) (run_append us (lowered_commands w o) words)
    ∙ lowered_is_effect w o (run_commands us words) (run_length us words ∙ long) good in
    record {
      ahead = ap (λ k. memory_ahead (drop k os) (memory_of w (run_commands (batches_undone (lane_of (after_submit v b) 0).batches) words))) (one_more_submitted v b queue number)
          ∙ ap (memory_ahead (drop (s + 1) os)) after ∙ ap (λ ys. memory_ahead ys x) (sym (drop_here s os o next)) ∙ is.ahead;
    }

-- the completion of the oldest called operation
pub ahead_complete : (w : World) (h : List Event) (v : VkState) (words : List (List ℕ)) (q : QueueId) → q.0 ≡ 0 → IsRunButWords w h → 0 < length w.queues → AreAhead w h v words → AreAhead w (h ++ event.Queue q ∷ []) v words
ahead_complete w h v words q first run some is =
    let e : Event = event.Queue q in
    let os : List Operation = operations w h 0 in
    let now : List Operation = operations w (h ++ e ∷ []) 0 in
    let c : ℕ = counter h 0 in
    let s : State = state_after w h in
    let x : List (List ℕ) = memory_of w (run_commands (batches_undone (lane_of v 0).batches) words) in
    let all : now ≡ os = operations_append w (first_state w) 0 h e ∙ append-nil os in
    let count : counter (h ++ e ∷ []) 0 ≡ c + 1 = counter_append 0 h e ∙ ap (λ p. c + (if (p == 0) then 1 else 0)) first in
    let memory : (state_after w (h ++ e ∷ [])).memory ≡ memory_after_operation s.memory (slice_get (drop c os) 0) =
    ap (λ (st : State). st.memory) (state_after_append w h e) ∙ ap (λ p. memory_after w s (event.Queue (record { 0 = p }))) first
    ∙ ap (λ ys. memory_after_operation s.memory (slice_get ys 0)) (called_now w h run some) in
    record {
      ahead = ap (λ ys. memory_ahead (drop (submitted_of v 0) ys) x) all ∙ is.ahead ∙ ahead_first_one (drop c os) s.memory
          ∙ ap (λ ys. memory_ahead ys (memory_after_operation s.memory (slice_get (drop c os) 0))) (drop-drop 1 c os)
          ∙ ap (memory_ahead (drop (c + 1) os)) (sym memory)
          ∙ ap (λ k. memory_ahead (drop k os) (state_after w (h ++ e ∷ [])).memory) (sym count)
          ∙ ap (λ ys. memory_ahead (drop (counter (h ++ e ∷ []) 0) ys) (state_after w (h ++ e ∷ [])).memory) (sym all);
    }

-- a batch passes
pub ahead_pass : (w : World) (h : List Event) (v : VkState) (words : List (List ℕ)) (n : ℕ) → 0 < length v.lanes → AreAhead w h v words → AreAhead w h (after_step v (Passed 0 n)) words
ahead_pass w h v words n some is = record {
  ahead = ap (λ (l : Lane). memory_ahead (drop (submitted_of v 0) (operations w h 0)) (memory_of w (run_commands (batches_undone l.batches) words)))
      (get_or_changed lane_after_pass v.lanes 0 no_lane some) ∙ is.ahead;
}

-- the first batch ends, of which all commands are done
pub ahead_end : (w : World) (h : List Event) (v : VkState) (words : List (List ℕ)) (n : ℕ) → 0 < length v.lanes → IsBump v 0 n → AreAhead w h v words → AreAhead w h (after_step v (Bumped 0 n)) words
ahead_end w h v words n some bump is =
    let lane : lane_of v 0 ≡ bump.lane = get_or_from_slice_get v.lanes 0 bump.lane no_lane bump.there in
    let head : slice_get (lane_of v 0).batches 0 ≡ Some bump.first = ap (λ (l : Lane). slice_get l.batches 0) lane ∙ bump.is_first in
    record {
      ahead = ap (λ (l : Lane). memory_ahead (drop (submitted_of v 0) (operations w h 0)) (memory_of w (run_commands (batches_undone l.batches) words)))
          (get_or_changed lane_after_bump v.lanes 0 no_lane some)
          ∙ ap (λ cs. memory_ahead (drop (submitted_of v 0) (operations w h 0)) (memory_of w (run_commands cs words))) (sym (undone_behind (lane_of v 0).batches bump.first head bump.done))
          ∙ is.ahead;
    }

-- the batch of a command that can run stands at the place of its number
runs_at : (v : VkState) (next : IsNextIn (lane_of v 0).batches) → IsValid v → place_of next.running.batch.number (lane_of v 0).batches ≡ next.place
runs_at v next valid = valid_place v valid 0 (lane_of v 0) (slice_get-get_or v.lanes 0 no_lane (some v.lanes next.there)) next.place next.running next.there
  where
    some : (lanes : List Lane) → slice_get (get_or lanes 0 no_lane).batches next.place ≡ Some next.running → 0 < length lanes
    some [] there = absurd (cc)
    some (x ∷ lanes) there = omega arith

-- a command runs, before which only barriers are not done
pub ahead_ran : (w : World) (h : List Event) (v : VkState) (words : List (List ℕ)) (next : IsNextIn (lane_of v 0).batches) → IsValid v → 0 < length v.lanes → AreAhead w h v words →
    AreAhead w h (after_step v (Ran 0 next.running.batch.number (1 + next.index))) (words_after v (Ran 0 next.running.batch.number (1 + next.index)) words)
ahead_ran w h v words next valid some is =
    let n : ℕ = next.running.batch.number in
    let k : ℕ = 1 + next.index in
    let rs : List Running = (lane_of v 0).batches in
    let held : List Operation = drop (submitted_of v 0) (operations w h 0) in
    let now : List (List ℕ) = after_found (command_at n k rs) words in
    let place : place_of n rs ≡ next.place = runs_at v next valid in
    let index : k - 1 ≡ next.index = omega arith in
    let found : command_at n k rs ≡ Some next.command =
    ap (λ i. slice_get (found_commands (slice_get rs i)) (k - 1)) place ∙ ap (λ o. slice_get (found_commands o) (k - 1)) next.there
    ∙ ap (slice_get next.running.batch.commands) index ∙ next.is_command in
    record {
      ahead = ap (λ (l : Lane). memory_ahead held (memory_of w (run_commands (batches_undone l.batches) now))) (get_or_changed (lane_after_run n k) v.lanes 0 no_lane some)
          ∙ ap (λ i. memory_ahead held (memory_of w (run_commands (batches_undone (changed_at (with_done k) i rs)) now))) place
          ∙ ap (λ o. memory_ahead held (memory_of w (run_commands (batches_undone (changed_at (with_done k) next.place rs)) (after_found o words)))) found
          ∙ ap (λ ws. memory_ahead held (memory_of w ws)) (sym (next.rest words)) ∙ is.ahead;
    }

-- the batches stay in order
order_ran : (v : VkState) (next : IsNextIn (lane_of v 0).batches) → IsValid v → 0 < length v.lanes →
    are_in_order (lane_of (after_step v (Ran 0 next.running.batch.number (1 + next.index))) 0).batches ≡ true
order_ran v next valid some =
    let n : ℕ = next.running.batch.number in
    let k : ℕ = 1 + next.index in
    ap (λ (l : Lane). are_in_order l.batches) (get_or_changed (lane_after_run n k) v.lanes 0 no_lane some)
    ∙ ap (λ i. are_in_order (changed_at (with_done k) i (lane_of v 0).batches)) (runs_at v next valid) ∙ next.in_order

order_pass : (v : VkState) (n : ℕ) → 0 < length v.lanes → are_in_order (lane_of v 0).batches ≡ true → are_in_order (lane_of (after_step v (Passed 0 n)) 0).batches ≡ true
order_pass v n some order = ap (λ (l : Lane). are_in_order l.batches) (get_or_changed lane_after_pass v.lanes 0 no_lane some) ∙ order

order_end : (v : VkState) (n : ℕ) → 0 < length v.lanes → are_in_order (lane_of v 0).batches ≡ true → are_in_order (lane_of (after_step v (Bumped 0 n)) 0).batches ≡ true
order_end v n some order =
    ap (λ (l : Lane). are_in_order l.batches) (get_or_changed lane_after_bump v.lanes 0 no_lane some) ∙ order_tail (lane_of v 0).batches order

one_lane : (lanes : List Lane) → length lanes ≡ 1 → lanes ≡ get_or lanes 0 no_lane ∷ []
one_lane [] one = absurd (omega (arith, one))
one_lane (x ∷ []) one = refl
one_lane (x ∷ y ∷ lanes) one = absurd (omega (arith, one))

-- where there is one queue, a fact of queue 0 is one of each queue
pub at_first : (P : ℕ → Type 0) (q n : ℕ) → q < n → n ≡ 1 → P 0 → P q
at_first P q n less one here = subst P (let e : 0 ≡ q = omega arith in e) here

no_event : (w : World) (h : List Event) (u : VkState) (words : List (List ℕ)) → AreAhead w h u words → AreAhead w (h ++ []) u words
no_event w h u words is = subst (λ hs. AreAhead w hs u words) (sym (append-nil h)) is

after_bump : (w : World) (h : List Event) (v : VkState) (words : List (List ℕ)) (n : ℕ) → IsRunButWords w h → 0 < length w.queues → 0 < length v.lanes → AreAhead w h v words →
    IsBump v 0 n → AreAhead w (h ++ step_events (Bumped 0 n)) (after_step v (Bumped 0 n)) words
after_bump w h v words n run some lanes is bump =
    let u : VkState = after_step v (Bumped 0 n) in
    let ended : AreAhead w h u words = ahead_end w h v words n lanes bump is in
    by_number (n == 0) u ended
  where
    by_number : (t : Bool) (u : VkState) → AreAhead w h u words → AreAhead w (h ++ (if t then [] else event.Queue (record { 0 = 0 }) ∷ [])) u words
    by_number true u is = no_event w h u words is
    by_number false u is = ahead_complete w h u words (record { 0 = 0 }) refl run some is

-- the words ahead after a step, and the order of the batches
pub record StaysAhead (w : World) (h : List Event) (v : VkState) (words : List (List ℕ)) (s : Stepped) : Type 0 where
  pub are : AreAhead w (h ++ step_events s) (after_step v s) (words_after v s words)
  pub in_order : are_in_order (lane_of (after_step v s) 0).batches ≡ true

step_kind : (w : World) (h : List Event) (v : VkState) (words : List (List ℕ)) (j : ℕ) (s : Stepped) → IsRunButWords w h → IsValid v → 0 < length w.queues → length v.lanes ≡ 1 → AreAhead w h v words →
    are_in_order (lane_of v 0).batches ≡ true → IsEnabled v s → slice_get (enabled_steps v) j ≡ Some s → StaysAhead w h v words s
step_kind w h v words j (Passed q n) run valid some one is order e at =
    at_first (λ p. StaysAhead w h v words (Passed p n)) q (length v.lanes) (slice_get_within v.lanes q e.lane e.there) one
    (record { are = no_event w h (after_step v (Passed 0 n)) words (ahead_pass w h v words n (omega arith) is); in_order = order_pass v n (omega arith) order })
step_kind w h v words j (Ran q n k) run valid some one is order e at =
    let next : (f : IsNextIn (lane_of v 0).batches) × (Ran 0 f.running.batch.number (1 + f.index) ≡ Ran q n k) =
    next_ran v.timelines (lane_of v 0) q n j k order
    (ap (λ ls. slice_get (passes v.timelines 0 ls ++ (commands 0 ls ++ bumps 0 ls)) j) (sym (one_lane v.lanes one)) ∙ at) in
    subst (StaysAhead w h v words) next.1
    (record {
      are = no_event w h (after_step v (Ran 0 next.0.running.batch.number (1 + next.0.index))) (words_after v (Ran 0 next.0.running.batch.number (1 + next.0.index)) words) (ahead_ran w h v words next.0 valid (omega arith) is);
      in_order = order_ran v next.0 valid (omega arith);
    })
step_kind w h v words j (Bumped q n) run valid some one is order e at =
    at_first (λ p. IsBump v p n → StaysAhead w h v words (Bumped p n)) q (length v.lanes) (slice_get_within v.lanes q e.lane e.there) one
    (λ bump. record { are = after_bump w h v words n run some (omega arith) is bump; in_order = order_end v n (omega arith) order }) e
step_kind w h v words j Free run valid some one is order e at = absurd e

-- a step that can be taken is one of a queue
pub some_queue : (v : VkState) (s : Stepped) → IsEnabled v s → 0 < length v.lanes
some_queue v (Passed q n) e = let within : q < length v.lanes = slice_get_within v.lanes q e.lane e.there in omega arith
some_queue v (Ran q n k) e = let within : q < length v.lanes = slice_get_within v.lanes q e.lane e.there in omega arith
some_queue v (Bumped q n) e = let within : q < length v.lanes = slice_get_within v.lanes q e.lane e.there in omega arith
some_queue v Free e = absurd e

-- a step of the device
pub ahead_step : (w : World) (h : List Event) (v : VkState) (words : List (List ℕ)) (j : ℕ) (s : Stepped) → HasOneQueueAtMost w → IsRunButWords w h → IsDevice w h v →
    slice_get (enabled_steps v) j ≡ Some s → AreAhead w h v words → are_in_order (lane_of v 0).batches ≡ true → StaysAhead w h v words s
ahead_step w h v words j s most run device at is order =
    let enabled : IsEnabled v s = enabled_means v j s at in
    let some : 0 < length w.queues = omega (arith, device.objects.lanes, some_queue v s enabled) in
    step_kind w h v words j s run device.valid some (omega (arith, device.objects.lanes, most.few_queues, some)) is order enabled at
