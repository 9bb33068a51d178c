-- Every step of the system but a free one leaves less work.
use Rattle.std.proofs.Common.{ℕ, zero, suc, ◌≡◌, ◌≢◌, ◌<◌, ◌≤◌, ◌+◌, ◌-◌, ◌∙◌, sym, ap, subst, refl, arith, List, [], ◌∷◌, ◌++◌, length, drop, map, Some, None, Option, Bool, true, false, append-nil, length-append, inl, inr, cond, lit≤}
use Rattle.std.proofs.lemmas.Bool.{cases_eq}
use Rattle.std.proofs.lemmas.List.{length-map}
use Rattle.std.proofs.lemmas.Bool.Decides.{eqb_tells}
use Rattle.std.specs.List.{slice_get}
use Rattle.std.specs.Prelude.{if◌then◌else◌, ◌==◌}
use Rattle.dx_base.specs.Lists.{changed_at}
use Rattle.dx_base.specs.declared.hresult.Hresult.{Hresult}
use Rattle.dx_base.specs.declared.ids.QueueId.{QueueId}
use Rattle.dx_base.specs.declared.ids.ThreadId.{ThreadId}
use Rattle.d3d_machine.specs.declared.world.World.{World}
use Rattle.d3d_machine.specs.declared.calls.Call.{Call}
use Rattle.d3d_machine.specs.declared.events.Listed.{Listed}
use Rattle.dx_base.specs.Effects.{At, unless}
use Rattle.d3d_machine.specs.CallEffects.{here_of, Task, executes, signals, does}
use Rattle.d3d_machine.proofs.CallEffects.{waits_done, length_marked}
use Rattle.d3d_machine.specs.declared.calls.Reply.{Reply}
use Rattle.d3d_machine.specs.declared.events.Operation.{Operation}
use Rattle.d3d_machine.specs.declared.events.Operation.TheVariants as operation
use Rattle.d3d_machine.specs.declared.events.Event.{Event}
use Rattle.d3d_machine.specs.declared.events.Event.TheVariants as event
use Rattle.d3d_machine.specs.State.{Waiting, Place, Desk, State, first_state, place_of, script_of, next_call}
use Rattle.d3d_machine.specs.Replies.{refusal_by}
use Rattle.d3d_machine.specs.Effects.{operation_of, operation_given, done, marked_places, marked_option, marked_place, desk_after_operation, dropped, head_of}
use Rattle.d3d_machine.specs.Play.{state_after}
use Rattle.d3d_machine.specs.Operations.{called_by, operations}
use Rattle.d3d_machine.proofs.Operations.{operations_append}
use Rattle.d3d_machine.proofs.Places.{place_in, made_marked, scripted}
use Rattle.d3d_machine.proofs.Runs.{state_after_append}
use Rattle.d3d_machine.proofs.Shape.{run_has_shape}
use Rattle.d3d_machine.proofs.Short.{commands_are_few}
use Rattle.vk_types.specs.declared.batches.Batch.{Batch}
use Rattle.vk_port.specs.declared.steps.Stepped.{Stepped}
use Rattle.vk_port.specs.declared.steps.Stepped.TheVariants as stepped
use Rattle.vk_port.specs.After.{after_step, after_submit}
use Rattle.vk_port.specs.Enabled.{enabled_steps}
use Rattle.vk_port.specs.Journal.{of_queue, number_after, next_number, first_number}
use Rattle.vk_port.specs.Left.{steps_left, lanes_left}
use Rattle.vk_port.specs.Valid.{IsValid}
use Rattle.vk_port.specs.VkState.{VkState}
use Rattle.vk_port.proofs.Falls.{falls, submit_left}
use Rattle.sys_core.specs.Lowering.{lowered_commands, lower_record, trailing}
use Rattle.sys_core.specs.Steps.{submitted_of, step_events}
use Rattle.sys_core.specs.Work.{task_weight, given_weight, begun_weight, call_weight, operation_weight, calls_work, operations_work, wait_work, place_work, threads_work, sum_from, queue_work, held_work, work}
use Rattle.sys_core.proofs.Holding.{drop_here}
use Rattle.d3d_machine.specs.Past.{calls}
use Rattle.d3d_machine.proofs.PastPlaces.{place_moved, threads_after}
use Rattle.sys_core.proofs.Standing.{of_queue_append}

-- a sum of numbers none of which grew
sum_same : (f g : ℕ → ℕ) (n k : ℕ) → ((q : ℕ) → n ≤ q → g q ≤ f q) → sum_from g n k ≤ sum_from f n k
sum_same f g n zero least = lit≤ tt
sum_same f g n (suc k) least =
    omega (arith, least n (omega arith), sum_same f g (n + 1) k (λ q behind. least q (omega (arith, behind))))

-- a sum of numbers of which one grew
sum_more : (f g : ℕ → ℕ) (p x n k : ℕ) → ((q : ℕ) → q ≢ p → g q ≤ f q) → g p ≤ f p + x → sum_from g n k ≤ sum_from f n k + x
sum_more f g p x n zero others here = omega arith
sum_more f g p x n (suc k) others here =
    elim (cases_eq n p) [
      | inl same ↦
          let first : g n ≤ f n + x = subst (λ q. g q ≤ f q + x) (sym same) here in
          let rest : sum_from g (n + 1) k ≤ sum_from f (n + 1) k = sum_same f g (n + 1) k (λ q behind. others q (λ is. omega (arith, behind, same, is))) in
          omega (arith, first, rest)
      | inr other ↦
          let first : g n ≤ f n = others n other in
          let rest : sum_from g (n + 1) k ≤ sum_from f (n + 1) k + x = sum_more f g p x (n + 1) k others here in
          omega (arith, first, rest)
    ]

-- a sum of numbers of which one fell
sum_less : (f g : ℕ → ℕ) (p x n k : ℕ) → ((q : ℕ) → q ≢ p → g q ≤ f q) → g p + x ≤ f p → n ≤ p → p < n + k → sum_from g n k + x ≤ sum_from f n k
sum_less f g p x n zero others here from within = absurd (omega (arith, from, within))
sum_less f g p x n (suc k) others here from within =
    elim (cases_eq n p) [
      | inl same ↦
          let first : g n + x ≤ f n = subst (λ q. g q + x ≤ f q) (sym same) here in
          let rest : sum_from g (n + 1) k ≤ sum_from f (n + 1) k = sum_same f g (n + 1) k (λ q behind. others q (λ is. omega (arith, behind, same, is))) in
          omega (arith, first, rest)
      | inr other ↦
          let first : g n ≤ f n = others n other in
          let later : n < p = omega (arith, from, other) in
          let rest : sum_from g (n + 1) k + x ≤ sum_from f (n + 1) k = sum_less f g p x (n + 1) k others here (omega (arith, later)) (omega (arith, within)) in
          omega (arith, first, rest)
    ]

-- the script of that thread among scripts
abbrev script_in : List (List Call) → ℕ → List Call
script_in scripts t = elim (slice_get scripts t) [ None ↦ [] | Some cs ↦ cs ]

-- the threads' work where the place of one is changed
threads_changed : (f : Place → Place) (scripts : List (List Call)) (places : List Place) (t a b : ℕ) → t < length scripts → t < length places →
    place_work (script_in scripts t) (f (place_in places t)) + a ≤ place_work (script_in scripts t) (place_in places t) + b →
    threads_work scripts (changed_at f t places) + a ≤ threads_work scripts places + b
threads_changed f [] places t a b scripted placed less = absurd (omega (arith, scripted))
threads_changed f (script ∷ scripts) [] t a b scripted placed less = absurd (omega (arith, placed))
threads_changed f (script ∷ scripts) (p ∷ places) zero a b scripted placed less = omega (arith, less)
threads_changed f (script ∷ scripts) (p ∷ places) (suc t) a b scripted placed less =
    omega (arith, threads_changed f scripts places t a b (omega (arith, scripted)) (omega (arith, placed)) less)

-- the threads' work where every place is changed and none has more to do
threads_mapped : (f : Place → Place) → ((script : List Call) (p : Place) → place_work script (f p) ≡ place_work script p) → (scripts : List (List Call)) (places : List Place) →
    threads_work scripts (map f places) ≡ threads_work scripts places
threads_mapped f same [] places = refl
threads_mapped f same (script ∷ scripts) [] = refl
threads_mapped f same (script ∷ scripts) (p ∷ places) = omega (arith, same script p, threads_mapped f same scripts places)

dropped_less : (n : ℕ) (ys : List Operation) → operations_work (drop n ys) ≤ operations_work ys
dropped_less zero ys = omega arith
dropped_less (suc n) [] = omega arith
dropped_less (suc n) (y ∷ ys) = omega (arith, dropped_less n ys)

-- operations behind others add no more than their own work
operations_more : (n : ℕ) (xs ys : List Operation) → operations_work (drop n (xs ++ ys)) ≤ operations_work (drop n xs) + operations_work ys
operations_more zero [] ys = omega arith
operations_more zero (x ∷ xs) ys = omega (arith, operations_more zero xs ys)
operations_more (suc n) [] ys = omega (arith, dropped_less (suc n) ys)
operations_more (suc n) (x ∷ xs) ys = operations_more n xs ys

-- the queue that is given a task
abbrev queue_of : Option (At Task) → ℕ
queue_of None = 0
queue_of (Some x) = x.place

given_at_most : (b : Bool) (o : Operation) → operations_work (if b then o ∷ [] else []) ≤ operation_weight o
given_at_most true o = omega arith
given_at_most false o = omega arith

task_few : (w : World) (h : List Event) (k : Task) → operation_weight (operation_of (state_after w h).desk.lists k) ≤ task_weight k
task_few w h (executes ls) = omega (arith, commands_are_few w h ls)
task_few w h (signals f v) = omega arith

operation_few : (w : World) (h : List Event) (q : ℕ) (o : Option (At Task)) → operations_work (here_of q (operation_given (state_after w h).desk.lists o)) ≤ given_weight o
operation_few w h q None = omega arith
operation_few w h q (Some x) =
    omega (arith, given_at_most (x.place == q) (operation_of (state_after w h).desk.lists x.what), task_few w h x.what)

given_elsewhere : (p q : ℕ) (o : Operation) → q ≢ p → operations_work (if (p == q) then o ∷ [] else []) ≡ 0
given_elsewhere p q o other =
    elim (eqb_tells p q) [
      | inl same ↦ absurd (other (sym same.1))
      | inr differs ↦ ap (λ (b : Bool). operations_work (if b then o ∷ [] else [])) differs.0
    ]

operation_none : (lists : List Listed) (q : ℕ) (o : Option (At Task)) → q ≢ queue_of o → operations_work (here_of q (operation_given lists o)) ≡ 0
operation_none lists q None other = refl
operation_none lists q (Some x) other = given_elsewhere x.place q (operation_of lists x.what) other

refused_less : (o : Option (At Task)) (r : Option Hresult) → given_weight (unless o r) ≤ given_weight o
refused_less None r = omega arith
refused_less (Some x) None = omega arith
refused_less (Some x) (Some e) = omega arith

-- a queue's work grows by what an event calls on it, at most
queue_event : (w : World) (h : List Event) (e : Event) (v u : VkState) (q : ℕ) → u.journal ≡ v.journal →
    queue_work w (h ++ e ∷ []) u q ≤ queue_work w h v q + operations_work (called_by w (state_after w h).desk q e)
queue_event w h e v u q journal =
    let os : List Operation = operations w h q in
    let by : List Operation = called_by w (state_after w h).desk q e in
    let is : queue_work w (h ++ e ∷ []) u q ≡ operations_work (drop (submitted_of v q) (os ++ by)) =
    ap (λ (j : List Batch). operations_work (drop (next_number q j - 1) (operations w (h ++ e ∷ []) q))) journal
    ∙ ap (λ xs. operations_work (drop (submitted_of v q) xs)) (operations_append w (first_state w) q h e) in
    omega (arith, is, operations_more (submitted_of v q) os by)

-- the queues' work after a call
held_call : (w : World) (h : List Event) (t : ThreadId) (c : Call) (r : Reply) (v u : VkState) → u.journal ≡ v.journal →
    held_work w (h ++ event.Call t c r ∷ []) u ≤ held_work w h v + given_weight (does c).gives
held_call w h t c r v u journal =
    let lists : List Listed = (state_after w h).desk.lists in
    let e : Event = event.Call t c r in
    let o : Option (At Task) = (done w lists c).gives in
    let more : held_work w (h ++ e ∷ []) u ≤ held_work w h v + given_weight o =
    sum_more (queue_work w h v) (queue_work w (h ++ e ∷ []) u) (queue_of o) (given_weight o) 0 (length w.queues)
    (λ q other. omega (arith, queue_event w h e v u q journal, operation_none lists q o other))
    (omega (arith, queue_event w h e v u (queue_of o) journal, operation_few w h (queue_of o) o)) in
    omega (arith, more, refused_less (does c).gives (refusal_by w lists c))

-- a thread's work after its next call
place_called : (d : Desk) (c : Call) (o : Option (At ℕ)) (script : List Call) (p : Place) → calls_work (drop p.made script) ≡ call_weight c + calls_work (drop (p.made + 1) script) →
    place_work script (place_moved d (calls o) p) + call_weight c ≤ place_work script p + begun_weight o
place_called d c None script p paid = omega (arith, paid)
place_called d c (Some x) script p paid = omega (arith, paid)

wait_marked : (f v : ℕ) (o : Option Waiting) → wait_work (marked_option f v o) ≡ wait_work o
wait_marked f v None = refl
wait_marked f v (Some x) = refl

place_marked : (f v : ℕ) (script : List Call) (p : Place) → place_work script (marked_place f v p) ≡ place_work script p
place_marked f v script p = ap (λ n. calls_work (drop p.made script) + n) (wait_marked f v p.waits)

-- a value that a fence takes leaves the work of the threads whose waits it meets
threads_marked : (o : Option (At ℕ)) (scripts : List (List Call)) (places : List Place) → threads_work scripts (marked_places o places) ≡ threads_work scripts places
threads_marked None scripts places = refl
threads_marked (Some x) scripts places = threads_mapped (marked_place x.place x.what) (place_marked x.place x.what) scripts places

-- the threads' work after a call
threads_called : (w : World) (h : List Event) (t : ThreadId) (c : Call) (r : Reply) → next_call w (state_after w h).desk t.0 ≡ Some c →
    threads_work w.scripts (state_after w (h ++ event.Call t c r ∷ [])).desk.threads + call_weight c ≤ threads_work w.scripts (state_after w h).desk.threads + begun_weight (does c).waits
threads_called w h t c r next =
    let d : Desk = (state_after w h).desk in
    let o : Option (At ℕ) = (done w d.lists c).sets in
    let x : Option (At ℕ) = (done w d.lists c).waits in
    let places : List Place = marked_places o d.threads in
    let p : Place = place_in places t.0 in
    let script : List Call = script_of w t.0 in
    let threads : (state_after w (h ++ event.Call t c r ∷ [])).desk.threads ≡ changed_at (place_moved d (calls x)) t.0 places =
    ap (λ (s : State). s.desk.threads) (state_after_append w h (event.Call t c r)) ∙ threads_after w (state_after w h) (event.Call t c r) in
    let made : p.made ≡ (place_of d t.0).made = made_marked o d.threads t.0 in
    let inside : t.0 < length w.scripts = scripted w.scripts t.0 (place_of d t.0).made c next in
    let placed : t.0 < length places = omega (arith, inside, (run_has_shape w h).desk.threads, length_marked o d.threads) in
    let paid : calls_work (drop p.made script) ≡ call_weight c + calls_work (drop (p.made + 1) script) =
    subst (λ m. calls_work (drop m script) ≡ call_weight c + calls_work (drop (m + 1) script)) (sym made) (ap calls_work (drop_here (place_of d t.0).made script c next)) in
    let less : threads_work w.scripts (changed_at (place_moved d (calls x)) t.0 places) + call_weight c ≤ threads_work w.scripts places + begun_weight x =
    threads_changed (place_moved d (calls x)) w.scripts places t.0 (call_weight c) (begun_weight x) inside placed (place_called d c x script p paid) in
    omega (arith, ap (threads_work w.scripts) threads, less, ap begun_weight (waits_done w d.lists c), threads_marked o w.scripts d.threads)

-- a call leaves less work
pub call_falls : (w : World) (h : List Event) (v u : VkState) (t : ThreadId) (c : Call) (r : Reply) → next_call w (state_after w h).desk t.0 ≡ Some c →
    u.journal ≡ v.journal → u.lanes ≡ v.lanes → work w (h ++ event.Call t c r ∷ []) u < work w h v
call_falls w h v u t c r next journal lanes =
    omega (arith, threads_called w h t c r next, held_call w h t c r v u journal, ap lanes_left lanes)

-- the queues' work after an event that calls nothing
held_quiet : (w : World) (h : List Event) (e : Event) (v u : VkState) → ((q : ℕ) → called_by w (state_after w h).desk q e ≡ []) → u.journal ≡ v.journal →
    held_work w (h ++ e ∷ []) u ≤ held_work w h v
held_quiet w h e v u none journal =
    sum_same (queue_work w h v) (queue_work w (h ++ e ∷ []) u) 0 (length w.queues)
    (λ q from. omega (arith, queue_event w h e v u q journal, ap operations_work (none q)))

-- a thread that waits is one of the world
waiting_within : (places : List Place) (t : ℕ) (x : Waiting) → (place_in places t).waits ≡ Some x → t < length places
waiting_within [] t x waits = absurd (cc)
waiting_within (p ∷ places) zero x waits = omega arith
waiting_within (p ∷ places) (suc t) x waits = omega (arith, waiting_within places t x waits)

-- a thread's place when it has woken
abbrev woken_place : Place → Place
woken_place p = record p { waits = None }

-- a thread that wakes leaves less work
pub awake_falls : (w : World) (h : List Event) (v : VkState) (t : ThreadId) (x : Waiting) → (place_of (state_after w h).desk t.0).waits ≡ Some x →
    work w (h ++ event.Awake t ∷ []) v < work w h v
awake_falls w h v t x waits =
    let d : Desk = (state_after w h).desk in
    let p : Place = place_of d t.0 in
    let threads : (state_after w (h ++ event.Awake t ∷ [])).desk.threads ≡ changed_at woken_place t.0 d.threads =
    ap (λ (s : State). s.desk.threads) (state_after_append w h (event.Awake t)) in
    let placed : t.0 < length d.threads = waiting_within d.threads t.0 x waits in
    let inside : t.0 < length w.scripts = omega (arith, placed, (run_has_shape w h).desk.threads) in
    let less : threads_work w.scripts (changed_at woken_place t.0 d.threads) + 1 ≤ threads_work w.scripts d.threads + 0 =
    threads_changed woken_place w.scripts d.threads t.0 1 0 inside placed (omega (arith, ap wait_work waits)) in
    omega (arith, ap (threads_work w.scripts) threads, less, held_quiet w h (event.Awake t) v v (λ q. refl) refl)

pub number_behind : (n : ℕ) (bs : List Batch) (b : Batch) → number_after n (bs ++ b ∷ []) ≡ b.number + 1
number_behind n [] b = refl
number_behind n (c ∷ bs) b = number_behind (c.number + 1) bs b

-- how many operations are submitted behind a batch, on its queue
submitted_here : (v : VkState) (b : Batch) (q : ℕ) → b.queue ≡ q → submitted_of (after_submit v b) q ≡ b.number
submitted_here v b q same =
    elim (eqb_tells b.queue q) [
      | inl at ↦
          let behind : of_queue q (v.journal ++ b ∷ []) ≡ of_queue q v.journal ++ b ∷ [] = of_queue_append q v.journal b ∙ ap (λ t. of_queue q v.journal ++ cond t (b ∷ []) []) at.0 in
          ap (λ bs. number_after (first_number q) bs - 1) behind ∙ omega (arith, number_behind (first_number q) (of_queue q v.journal) b)
      | inr other ↦ absurd (other.1 same)
    ]

-- how many are, on another queue
submitted_there : (v : VkState) (b : Batch) (q : ℕ) → q ≢ b.queue → submitted_of (after_submit v b) q ≡ submitted_of v q
submitted_there v b q differs =
    elim (eqb_tells b.queue q) [
      | inl same ↦ absurd (differs (sym same.1))
      | inr other ↦
          ap (λ bs. number_after (first_number q) bs - 1)
          (of_queue_append q v.journal b ∙ ap (λ t. of_queue q v.journal ++ cond t (b ∷ []) []) other.0 ∙ append-nil (of_queue q v.journal))
    ]

-- an operation weighs more than the steps of its batch
operation_pays : (w : World) (o : Operation) → operation_weight o ≡ 3 + length (lowered_commands w o)
operation_pays w (operation.Execute cs) =
    let commands = map (λ c. lower_record w c.what) cs in
    let many : length (commands ++ trailing ∷ []) ≡ length commands + 1 = length-append commands (trailing ∷ []) in
    omega (arith, many, length-map cs (λ c. lower_record w c.what))
operation_pays w (operation.Signal f v) = refl

-- a queue's work when its next operation is submitted
queue_submit : (w : World) (h : List Event) (v : VkState) (q : ℕ) (o : Operation) (b : Batch) → slice_get (operations w h q) (submitted_of v q) ≡ Some o →
    b.queue ≡ q → b.number ≡ submitted_of v q + 1 → queue_work w h (after_submit v b) q + operation_weight o ≡ queue_work w h v q
queue_submit w h v q o b is queue number =
    let os : List Operation = operations w h q in
    let now : queue_work w h (after_submit v b) q ≡ operations_work (drop (submitted_of v q + 1) os) = ap (λ n. operations_work (drop n os)) (submitted_here v b q queue ∙ number) in
    let before : queue_work w h v q ≡ operation_weight o + operations_work (drop (submitted_of v q + 1) os) = ap operations_work (drop_here (submitted_of v q) os o is) in
    omega (arith, now, before)

-- the submission of the next operation of a queue leaves less work
pub submit_falls : (w : World) (h : List Event) (v : VkState) (q : ℕ) (o : Operation) (b : Batch) → q < length w.queues →
    slice_get (operations w h q) (submitted_of v q) ≡ Some o → b.queue ≡ q → b.number ≡ submitted_of v q + 1 → b.commands ≡ lowered_commands w o →
    IsValid v → q < length v.lanes → work w h (after_submit v b) < work w h v
submit_falls w h v q o b within is queue number commands valid lane =
    let less : held_work w h (after_submit v b) + operation_weight o ≤ held_work w h v =
    sum_less (queue_work w h v) (queue_work w h (after_submit v b)) q (operation_weight o) 0 (length w.queues)
    (λ p other. omega (arith, ap (λ n. operations_work (drop n (operations w h p))) (submitted_there v b p (λ same. other (same ∙ queue)))))
    (omega (arith, queue_submit w h v q o b is queue number)) (omega arith) (omega (arith, within)) in
    let left : steps_left (after_submit v b) ≡ steps_left v + (2 + length b.commands) = submit_left v b valid (omega (arith, queue, lane)) in
    omega (arith, less, left, operation_pays w o, ap length commands)

threads_completed : (scripts : List (List Call)) (d : Desk) (o : Option Operation) → threads_work scripts (desk_after_operation d o).threads ≡ threads_work scripts d.threads
threads_completed scripts d None = refl
threads_completed scripts d (Some (operation.Execute cs)) = refl
threads_completed scripts d (Some (operation.Signal f v)) = threads_mapped (marked_place f.0 v) (place_marked f.0 v) scripts d.threads

-- a completion where the device has fewer steps left
queue_falls : (w : World) (h : List Event) (v u : VkState) (q : QueueId) → u.journal ≡ v.journal → steps_left u < steps_left v →
    work w (h ++ event.Queue q ∷ []) u < work w h v
queue_falls w h v u q journal fewer =
    let d : Desk = (state_after w h).desk in
    let threads : threads_work w.scripts (state_after w (h ++ event.Queue q ∷ [])).desk.threads ≡ threads_work w.scripts d.threads =
    ap (λ (s : State). threads_work w.scripts s.desk.threads) (state_after_append w h (event.Queue q)) ∙ threads_completed w.scripts (dropped d q.0) (head_of d q.0) in
    omega (arith, threads, held_quiet w h (event.Queue q) v u (λ p. refl) journal, fewer)

-- no event where the device has fewer steps left
silent_falls : (w : World) (h : List Event) (v u : VkState) → u.journal ≡ v.journal → steps_left u < steps_left v → work w (h ++ []) u < work w h v
silent_falls w h v u journal fewer =
    let same : work w (h ++ []) u ≡ work w h u = ap (λ k. work w k u) (append-nil h) in
    let held : held_work w h u ≤ held_work w h v =
    sum_same (queue_work w h v) (queue_work w h u) 0 (length w.queues)
    (λ q from. omega (arith, ap (λ (j : List Batch). operations_work (drop (next_number q j - 1) (operations w h q))) journal)) in
    omega (arith, same, held, fewer)

ended_falls : (w : World) (h : List Event) (v u : VkState) (q : QueueId) (b : Bool) → u.journal ≡ v.journal → steps_left u < steps_left v →
    work w (h ++ (if b then [] else event.Queue q ∷ [])) u < work w h v
ended_falls w h v u q true journal fewer = silent_falls w h v u journal fewer
ended_falls w h v u q false journal fewer = queue_falls w h v u q journal fewer

step_falls : (w : World) (h : List Event) (v : VkState) (s : Stepped) → steps_left (after_step v s) < steps_left v →
    work w (h ++ step_events s) (after_step v s) < work w h v
step_falls w h v (stepped.Passed q n) fewer = silent_falls w h v (after_step v (stepped.Passed q n)) refl fewer
step_falls w h v (stepped.Ran q n k) fewer = silent_falls w h v (after_step v (stepped.Ran q n k)) refl fewer
step_falls w h v (stepped.Bumped q n) fewer = ended_falls w h v (after_step v (stepped.Bumped q n)) (record { 0 = q }) (n == 0) refl fewer
step_falls w h v stepped.Free fewer = silent_falls w h v v refl fewer

-- a step of the device leaves less work
pub device_falls : (w : World) (h : List Event) (v : VkState) (k : ℕ) (s : Stepped) → IsValid v → slice_get (enabled_steps v) k ≡ Some s →
    work w (h ++ step_events s) (after_step v s) < work w h v
device_falls w h v k s valid is = step_falls w h v s (omega (arith, falls v valid k s is))
