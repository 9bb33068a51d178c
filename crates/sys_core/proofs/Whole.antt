-- A calm history is a run with its words.
use Rattle.std.proofs.Common.{ℕ, zero, suc, ◌≡◌, ◌<◌, ◌+◌, ◌∙◌, sym, ap, subst, refl, List, [], ◌∷◌, ◌++◌, length, Some, None, Option, Bool, true, false, append-nil, slice_get, inl, inr, arith, ◌≤◌}
use Rattle.std.proofs.lemmas.Bool.{cases_lt}
use Rattle.std.proofs.lemmas.Option.{slice_get_within}
use Rattle.std.specs.Prelude.{◌==◌, if◌then◌else◌}
use Rattle.std.specs.List.{list_all}
use Rattle.dx_base.specs.declared.ids.ThreadId.{ThreadId}
use Rattle.d3d_machine.specs.declared.world.World.{World}
use Rattle.d3d_machine.specs.declared.calls.Call.{Call}
use Rattle.dx_base.specs.Effects.{At}
use Rattle.d3d_machine.specs.declared.calls.Reply.{Reply}
use Rattle.d3d_machine.specs.declared.events.Operation.{Operation}
use Rattle.d3d_machine.specs.declared.events.Event.{Event}
use Rattle.d3d_machine.specs.declared.events.Event.TheVariants as event
use Rattle.d3d_machine.specs.World.{IsWorld, HasOneQueueAtMost}
use Rattle.d3d_machine.specs.State.{Desk, State, first_state, called_of}
use Rattle.d3d_machine.specs.Replies.{refusal}
use Rattle.d3d_machine.specs.Effects.{after, after_all, done, memory_by}
use Rattle.d3d_machine.specs.Play.{May, Plays, SameReply, SameButWords, IsRun, IsRunButWords, state_after}
use Rattle.d3d_machine.specs.Operations.{operations, counter, called_by}
use Rattle.d3d_machine.proofs.Operations.{operations_append}
use Rattle.d3d_machine.proofs.Shape.{run_has_shape}
use Rattle.d3d_machine.proofs.Runs.{plays_append, run_append}
use Rattle.vk_types.specs.declared.batches.Batch.{Batch}
use Rattle.vk_types.specs.declared.steps.VkStep.TheVariants.{Submit}
use Rattle.vk_sync_rules.specs.Rules.{after_step as after_vk_step}
use Rattle.vk_sync_rules.specs.Runs.{Fits}
use Rattle.vk_sync_rules.specs.VkState.{VkState as Machine}
use Rattle.vk_port.specs.declared.steps.Stepped.{Stepped}
use Rattle.vk_port.specs.declared.steps.Stepped.TheVariants.{Passed, Ran, Bumped, Free}
use Rattle.vk_port.specs.After.{after_step, after_submit}
use Rattle.vk_port.specs.Enabled.{enabled_steps}
use Rattle.vk_port.specs.Machine.{shown, after_stepped}
use Rattle.vk_port.specs.Meaning.{IsEnabled}
use Rattle.vk_port.specs.Reads.{AreKnown}
use Rattle.vk_port.specs.Settled.{IsSettled}
use Rattle.vk_port.specs.VkState.{VkState, lane_of}
use Rattle.vk_port.proofs.Enabled.{enabled_means}
use Rattle.vk_port.proofs.SettledSteps.{stays_settled}
use Rattle.sys_core.specs.Lowering.{plan_buffers, lowered_commands}
use Rattle.sys_core.specs.Machine.{IsMachine}
use Rattle.sys_core.specs.Memory.{memory_of}
use Rattle.sys_core.specs.Host.{after_call}
use Rattle.sys_core.specs.Opened.{opened}
use Rattle.sys_core.proofs.Startup.{opened_view}
use Rattle.sys_core.proofs.MachineSteps.{call_shown, machine_open, shown_step}
use Rattle.sys_core.specs.Steps.{submitted_of, step_events}
use Rattle.sys_core.specs.ThreadSteps.{IsOf, HasWords, TellsWords, after_host, IsThreadStep}
use Rattle.sys_core.specs.Consistent.{IsDevice}
use Rattle.sys_core.specs.Ahead.{AreAhead, IsAhead, IsQuiet, is_good_access, is_host_access, AreQuietFrom, AreHostAccessesQuiet, IsCalm, IsWhole}
use Rattle.sys_core.proofs.Ahead.{device_within, called_now, drop_past, ahead_first, ahead_awake, idle_words, first_buffers}
use Rattle.sys_core.proofs.NoQueue.{no_queue_event, no_queue_idle, quiet_words}
use Rattle.sys_core.specs.InOrder.{are_in_order, is_single, is_short}
use Rattle.sys_core.proofs.InOrder.{all_front}
use Rattle.sys_core.proofs.Orderly.{lowered_is_short, order_first, order_submit}
use Rattle.sys_core.proofs.AheadSteps.{ahead_call, ahead_submit, StaysAhead, ahead_step, at_first, memory_stored, some_queue, words_stored}
use Rattle.vk_port.specs.Words.{words_after}
use Rattle.sys_core.proofs.Replies.{reply_exact}
use Rattle.sys_core.proofs.Settling.{call_kept, first_kept, IsOn, known_sizes, known_step, StaysKnown, quiet_finished, read_is_memory, simple_batch}
use Rattle.sys_core.proofs.Spread.{as_many}
use Rattle.d3d_machine.proofs.Named.{all_at}

quiet_from_append : (w : World) (s : State) (h : List Event) (e : Event) → AreQuietFrom w s h → ((is_host_access w (after_all w s h) e ≡ true) → IsQuiet (after_all w s h)) →
    AreQuietFrom w s (h ++ e ∷ [])
quiet_from_append w s [] e are last = (last, tt)
quiet_from_append w s (d ∷ h) e are last = (are.0, quiet_from_append w (after w s d) h e are.1 last)

quiet_from_front : (w : World) (s : State) (h : List Event) (e : Event) → AreQuietFrom w s (h ++ e ∷ []) → AreQuietFrom w s h
quiet_from_front w s [] e are = tt
quiet_from_front w s (d ∷ h) e are = (are.0, quiet_from_front w (after w s d) h e are.1)

quiet_from_last : (w : World) (s : State) (h : List Event) (e : Event) → AreQuietFrom w s (h ++ e ∷ []) → (is_host_access w (after_all w s h) e ≡ true) → IsQuiet (after_all w s h)
quiet_from_last w s [] e are = are.0
quiet_from_last w s (d ∷ h) e are = quiet_from_last w (after w s d) h e are.1

-- host accesses stay quiet by an event that is none, or comes where no called operation is incomplete
pub quiet_append : (w : World) (h : List Event) (e : Event) → AreHostAccessesQuiet w h → ((is_host_access w (state_after w h) e ≡ true) → IsQuiet (state_after w h)) →
    AreHostAccessesQuiet w (h ++ e ∷ [])
quiet_append w h e are last = quiet_from_append w (first_state w) h e are last

-- host accesses were quiet before the last event
pub quiet_front : (w : World) (h : List Event) (e : Event) → AreHostAccessesQuiet w (h ++ e ∷ []) → AreHostAccessesQuiet w h
quiet_front w h e are = quiet_from_front w (first_state w) h e are

-- the last event, where it is a host access, came where no called operation was incomplete
pub quiet_last : (w : World) (h : List Event) (e : Event) → AreHostAccessesQuiet w (h ++ e ∷ []) → (is_host_access w (state_after w h) e ≡ true) → IsQuiet (state_after w h)
quiet_last w h e are = quiet_from_last w (first_state w) h e are

-- a history was calm before its last event
pub calm_front : (w : World) (h : List Event) (e : Event) → IsCalm w (h ++ e ∷ []) → IsCalm w h
calm_front w h e calm = record {
  world = calm.world;
  quiet = quiet_front w h e calm.quiet;
  single = λ q.
      all_front is_single (operations w h q) (called_by w (state_after w h).desk q e)
      (subst (λ os. list_all is_single os ≡ true) (operations_append w (first_state w) q h e) (calm.single q));
}

called_past : (d : Desk) (q : ℕ) → length d.called ≤ q → called_of d q ≡ []
called_past d q past = ap (λ (o : Option (List Operation)). elim o [ None ↦ [] | Some os ↦ os ]) (none_past d.called q past)
  where
    none_past : (called : List (List Operation)) (q : ℕ) → length called ≤ q → slice_get called q ≡ None
    none_past [] q past = refl
    none_past (os ∷ called) zero past = absurd (omega (arith, past))
    none_past (os ∷ called) (suc q) past = none_past called q (omega (arith, past))

-- where as many operations completed as were called, no called operation is incomplete
pub quiet_when : (w : World) (h : List Event) → HasOneQueueAtMost w → IsRunButWords w h → length (operations w h 0) ≤ counter h 0 → IsQuiet (state_after w h)
quiet_when w h most run all = record {
  none_called = λ q. elim (cases_lt q (length w.queues)) [
    | inl within ↦
        let one : length w.queues ≡ 1 = omega (arith, within, most.few_queues) in
        at_first (λ p. called_of (state_after w h).desk p ≡ []) q (length w.queues) within one
        (called_now w h run (omega (arith, one)) ∙ drop_past (counter h 0) (operations w h 0) all)
    | inr past ↦ called_past (state_after w h).desk q (omega (arith, (run_has_shape w h).desk.called, past))
  ];
}

-- the last event of a play could come
pub plays_last : (Same : Reply → Reply → Type 0) (w : World) (s : State) (h : List Event) (e : Event) → Plays Same w s (h ++ e ∷ []) → May Same w (after_all w s h) e
plays_last Same w s [] e plays = plays.0
plays_last Same w s (d ∷ h) e plays = plays_last Same w (after w s d) h e plays.1

-- a call that is served, in a world with a queue or without
words_call : (w : World) (h : List Event) (v : VkState) (words : List (List ℕ)) (t : ThreadId) (c : Call) (r : Reply) →
    IsWorld w → IsRunButWords w h → IsRunButWords w (h ++ event.Call t c r ∷ []) → IsDevice w h v → length words ≡ length (plan_buffers w.resources) →
    ((is_good_access (refusal w (state_after w h).desk c) c ≡ true) → IsQuiet (state_after w h)) → AreAhead w h v words →
    AreAhead w (h ++ event.Call t c r ∷ []) v (words_stored w (done w (state_after w h).desk.lists c).stores words)
words_call w h v words t c r world run now device long quiet is =
    elim (cases_lt 0 (length w.queues)) [
      | inl some ↦ ahead_call w h v words t c r run device some long quiet is
      | inr none ↦
          let lanes : length v.lanes ≤ 0 = omega (arith, device.objects.lanes, none) in
          let o : Option (At (ℕ × List ℕ)) = (done w (state_after w h).desk.lists c).stores in
          let same : memory_of w words ≡ (state_after w h).memory = idle_words w h v words is (no_queue_idle w h v world run none lanes) in
          no_queue_event w h (event.Call t c r) v (words_stored w o words) world now none lanes
          (memory_stored w (state_after w h).desk.lists c words long ∙ ap (memory_by o) same)
    ]

words_awake : (w : World) (h : List Event) (v : VkState) (words : List (List ℕ)) (t : ThreadId) → IsWorld w → IsRunButWords w h → IsRunButWords w (h ++ event.Awake t ∷ []) → IsDevice w h v →
    AreAhead w h v words → AreAhead w (h ++ event.Awake t ∷ []) v words
words_awake w h v words t world run now device is =
    elim (cases_lt 0 (length w.queues)) [
      | inl some ↦ ahead_awake w h v words t (device_within w h v device some) is
      | inr none ↦
          let lanes : length v.lanes ≤ 0 = omega (arith, device.objects.lanes, none) in
          no_queue_event w h (event.Awake t) v words world now none lanes (idle_words w h v words is (no_queue_idle w h v world run none lanes))
    ]

-- the start
pub whole_first : (w : World) → IsWhole w [] (opened w)
whole_first w =
    let same : shown (opened w) ≡ opened_view w = (machine_open w).1 in
    record {
      run = λ _. tt;
      words = λ _. record { words = first_buffers w; known = (first_kept w).1; are = subst (λ v. AreAhead w [] v (first_buffers w)) (sym same) (ahead_first w) };
      in_order = λ _. ap (λ (v : VkState). are_in_order (lane_of v 0).batches) same ∙ order_first w;
      settled = λ _. (first_kept w).0;
    }

-- a call that is served, with a reply whose words agree with what the host reads
whole_call : (w : World) (h : List Event) (m : Machine) (t : ThreadId) (c : Call) (r : Reply) → IsWorld w → IsRunButWords w h → IsDevice w h (shown m) → IsMachine w m →
    May SameButWords w (state_after w h) (event.Call t c r) → HasWords w m (done w (state_after w h).desk.lists c).reads r →
    IsWhole w h m → IsWhole w (h ++ event.Call t c r ∷ []) (after_call w (state_after w h).desk.lists m c r)
whole_call w h m t c r world run device machine may has is =
    let v : VkState = shown m in
    let e : Event = event.Call t c r in
    let s : State = state_after w h in
    let now : IsRunButWords w (h ++ e ∷ []) = run_append w h e run may in
    let front : IsCalm w (h ++ e ∷ []) → IsCalm w h = calm_front w h e in
    let same : shown (after_call w s.desk.lists m c r) ≡ v = call_shown w s.desk.lists m c r in
    let ahead : IsCalm w (h ++ e ∷ []) → IsAhead w h m = λ calm. is.words (front calm) in
    let quiet : IsCalm w (h ++ e ∷ []) → (is_good_access (refusal w s.desk c) c ≡ true) → IsQuiet s = λ calm. quiet_last w h e calm.quiet in
    let kept : (calm : IsCalm w (h ++ e ∷ [])) → IsSettled (after_call w s.desk.lists m c r) 0 × AreKnown (after_call w s.desk.lists m c r) (words_stored w (done w s.desk.lists c).stores (ahead calm).words) =
    λ calm. call_kept w m s.desk.lists c r (ahead calm).words world machine (is.settled (front calm)) (ahead calm).known
    (λ access. quiet_finished w h m run device machine (quiet calm access)) in
    record {
      run = λ calm. plays_append SameReply w (first_state w) h e (is.run (front calm)) (
        may.0,
        may.1,
        reply_exact w m s c r may.2 has
            (read_is_memory w m s.desk.lists c (ahead calm).words s.memory machine (is.settled (front calm)) (ahead calm).known
            (λ access. (quiet_finished w h m run device machine (quiet calm access), quiet_words w h v (ahead calm).words world run device (ahead calm).are (quiet calm access)))),
      );
      words = λ calm. record {
        words = words_stored w (done w s.desk.lists c).stores (ahead calm).words;
        known = (kept calm).1;
        are = subst (λ x. AreAhead w (h ++ e ∷ []) x (words_stored w (done w s.desk.lists c).stores (ahead calm).words)) (sym same)
            (words_call w h v (ahead calm).words t c r world run now device (as_many w (ahead calm).words (known_sizes w m (ahead calm).words machine (ahead calm).known)) (quiet calm) (ahead calm).are);
      };
      in_order = λ calm. ap (λ (x : VkState). are_in_order (lane_of x 0).batches) same ∙ is.in_order (front calm);
      settled = λ calm. (kept calm).0;
    }

-- a thread that wakes
whole_awake : (w : World) (h : List Event) (m : Machine) (t : ThreadId) → IsWorld w → IsRunButWords w h → IsDevice w h (shown m) →
    May SameButWords w (state_after w h) (event.Awake t) → IsWhole w h m → IsWhole w (h ++ event.Awake t ∷ []) m
whole_awake w h m t world run device may is =
    let e : Event = event.Awake t in
    let ahead : IsCalm w (h ++ e ∷ []) → IsAhead w h m = λ calm. is.words (calm_front w h e calm) in
    record {
      run = λ calm. plays_append SameReply w (first_state w) h e (is.run (calm_front w h e calm)) may;
      words = λ calm. record {
        words = (ahead calm).words;
        known = (ahead calm).known;
        are = words_awake w h (shown m) (ahead calm).words t world run (run_append w h e run may) device (ahead calm).are;
      };
      in_order = λ calm. is.in_order (calm_front w h e calm);
      settled = λ calm. is.settled (calm_front w h e calm);
    }

thread_event : (w : World) (h : List Event) (m : Machine) (t : ℕ) (e : Event) → IsWorld w → IsRunButWords w h → IsDevice w h (shown m) → IsMachine w m → IsOf t e →
    May SameButWords w (state_after w h) e → TellsWords w (state_after w h).desk m e → IsWhole w h m → IsWhole w (h ++ e ∷ []) (after_host w (state_after w h).desk m e)
thread_event w h m t (event.Call u c r) world run device machine of_thread may tells is = whole_call w h m u c r world run device machine may tells is
thread_event w h m t (event.Awake u) world run device machine of_thread may tells is = whole_awake w h m u world run device may is
thread_event w h m t (event.Queue q) world run device machine of_thread may tells is = absurd of_thread

-- a step of a thread
pub whole_thread : (w : World) (h k : List Event) (m n : Machine) (t : ℕ) → IsWorld w → IsRunButWords w h → IsDevice w h (shown m) → IsMachine w m → IsThreadStep w h k m n t →
    IsWhole w h m → IsWhole w k n
whole_thread w h k m n t world run device machine step is =
    subst (λ x. IsWhole w k x) (sym step.machine)
    (subst (λ x. IsWhole w x (after_host w (state_after w h).desk m step.event)) (sym step.history)
    (thread_event w h m t step.event world run device machine step.of_thread step.enabled step.words is))

-- the submission of the next operation of a queue
pub whole_submit : (w : World) (h : List Event) (m : Machine) (q : ℕ) (b : Batch) (o : Operation) → IsDevice w h (shown m) → IsMachine w m → q < length w.queues →
    slice_get (operations w h q) (submitted_of (shown m) q) ≡ Some o → b.queue ≡ q → b.number ≡ submitted_of (shown m) q + 1 → b.commands ≡ lowered_commands w o → b.sets ≡ (q, submitted_of (shown m) q + 1) ∷ [] →
    Fits m (Submit b) → shown (after_vk_step m (Submit b)) ≡ after_submit (shown m) b → IsWhole w h m → IsWhole w h (after_vk_step m (Submit b))
whole_submit w h m q b o device machine within next queue number cs sets fits same is =
    let v : VkState = shown m in
    record {
      run = is.run;
      words = λ calm.
          let ahead : IsAhead w h m = is.words calm in
          let long : length ahead.words ≡ length (plan_buffers w.resources) = as_many w ahead.words (known_sizes w m ahead.words machine ahead.known) in
          record {
            words = ahead.words;
            known = ahead.known;
            are = subst (λ x. AreAhead w h x ahead.words) (sym same) (at_first (λ p. slice_get (operations w h p) (submitted_of v p) ≡ Some o → b.queue ≡ p → b.number ≡ submitted_of v p + 1 → AreAhead w h (after_submit v b) ahead.words) q (length w.queues) within
                (omega (arith, within, calm.world.queues.few_queues))
                (λ next queue number. ahead_submit w h v ahead.words b o long (omega (arith, device.objects.lanes, within)) next queue number cs ahead.are) next queue number);
          };
      in_order = λ calm.
          let zeroth : q ≡ 0 = omega (arith, within, calm.world.queues.few_queues) in
          let single : is_single o ≡ true = all_at is_single (operations w h q) (submitted_of v q) o (calm.single q) next in
          let lanes : 0 < length v.lanes = omega (arith, device.objects.lanes, within) in
          ap (λ (x : VkState). are_in_order (lane_of x 0).batches) same ∙ order_submit v b lanes (queue ∙ zeroth) (ap is_short cs ∙ lowered_is_short w o single) (is.in_order calm);
      settled = λ calm.
          let single : is_single o ≡ true = all_at is_single (operations w h q) (submitted_of v q) o (calm.single q) next in
          stays_settled m 0 (Submit b) machine.begins (is.settled calm) refl fits (λ _. simple_batch w b o (q, submitted_of v q + 1) cs sets single);
    }

same_history : (w : World) (h : List Event) → (IsCalm w (h ++ []) → IsCalm w h) × (IsRun w h → IsRun w (h ++ []))
same_history w h = (λ calm. subst (IsCalm w) (append-nil h) calm, λ run. subst (IsRun w) (sym (append-nil h)) run)

-- where a step's event makes a run but for words go on, it makes a run go on, and is no host access
step_goes_on : (w : World) (h : List Event) (s : Stepped) → IsRunButWords w (h ++ step_events s) →
    (IsCalm w (h ++ step_events s) → IsCalm w h) × (IsRun w h → IsRun w (h ++ step_events s))
step_goes_on w h (Passed q n) now = same_history w h
step_goes_on w h (Ran q n k) now = same_history w h
step_goes_on w h Free now = same_history w h
step_goes_on w h (Bumped q n) now = by_number (n == 0) now
  where
    by_number : (t : Bool) → IsRunButWords w (h ++ (if t then [] else event.Queue (record { 0 = q }) ∷ [])) →
        (IsCalm w (h ++ (if t then [] else event.Queue (record { 0 = q }) ∷ [])) → IsCalm w h)
        × (IsRun w h → IsRun w (h ++ (if t then [] else event.Queue (record { 0 = q }) ∷ [])))
    by_number true now = same_history w h
    by_number false now =
        let e : Event = event.Queue (record { 0 = q }) in
        (λ calm. calm_front w h e calm, λ run. plays_append SameReply w (first_state w) h e run (plays_last SameButWords w (first_state w) h e now))

-- a command of a world with one queue is of that queue
on_first : (v : VkState) (s : Stepped) → length v.lanes ≡ 1 → IsEnabled v s → IsOn 0 s
on_first v (Passed q n) one enabled = tt
on_first v (Ran q n k) one enabled = omega (arith, one, slice_get_within v.lanes q enabled.lane enabled.there)
on_first v (Bumped q n) one enabled = tt
on_first v Free one enabled = tt

-- a step of the device
pub whole_step : (w : World) (h : List Event) (m : Machine) (j : ℕ) (s : Stepped) → IsRunButWords w h → IsDevice w h (shown m) → IsMachine w m →
    slice_get (enabled_steps (shown m)) j ≡ Some s → IsRunButWords w (h ++ step_events s) → IsWhole w h m → IsWhole w (h ++ step_events s) (after_stepped m s [])
whole_step w h m j s run device machine at now is =
    let v : VkState = shown m in
    let goes : (IsCalm w (h ++ step_events s) → IsCalm w h) × (IsRun w h → IsRun w (h ++ step_events s)) = step_goes_on w h s now in
    let enabled : IsEnabled v s = enabled_means v j s at in
    let lanes : 0 < length v.lanes = some_queue v s enabled in
    let some : 0 < length w.queues = omega (arith, device.objects.lanes, lanes) in
    let ahead : IsCalm w (h ++ step_events s) → IsAhead w h m = λ calm. is.words (goes.0 calm) in
    let same : shown (after_stepped m s []) ≡ after_step v s = shown_step w m s machine enabled in
    let stays : (calm : IsCalm w (h ++ step_events s)) → StaysAhead w h v (ahead calm).words s =
    λ calm. ahead_step w h v (ahead calm).words j s calm.world.queues run device at (ahead calm).are (is.in_order (goes.0 calm)) in
    let kept : (calm : IsCalm w (h ++ step_events s)) → StaysKnown m 0 s (ahead calm).words =
    λ calm. known_step w h m 0 s (ahead calm).words device machine enabled some
    (on_first v s (omega (arith, device.objects.lanes, some, calm.world.queues.few_queues)) enabled) (is.settled (goes.0 calm)) (ahead calm).known in
    record {
      run = λ calm. goes.1 (is.run (goes.0 calm));
      words = λ calm. record { words = words_after v s (ahead calm).words; known = (kept calm).known; are = subst (λ x. AreAhead w (h ++ step_events s) x (words_after v s (ahead calm).words)) (sym same) (stays calm).are };
      in_order = λ calm. ap (λ (x : VkState). are_in_order (lane_of x 0).batches) same ∙ (stays calm).in_order;
      settled = λ calm. (kept calm).settled;
    }
