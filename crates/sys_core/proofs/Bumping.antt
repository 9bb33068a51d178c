-- The system stays consistent when the device takes a step.
use Rattle.std.proofs.Common.{ℕ, zero, suc, ◌≡◌, ◌≢◌, ◌<◌, ◌≤◌, ◌+◌, ◌-◌, ◌∙◌, sym, ap, subst, refl, arith, List, [], ◌∷◌, ◌++◌, length, map, take, drop, Some, None, Option, get_or, set, inl, inr, cond, false, append-nil, length-drop}
use Rattle.std.proofs.lemmas.Bool.{lt-ltb}
use Rattle.std.proofs.lemmas.Bool.Decides.{eqb_tells}
use Rattle.std.proofs.lemmas.List.{length-map}
use Rattle.std.proofs.lemmas.Option.{slice_get_within, slice_get-map, get_or_from_slice_get}
use Rattle.std.specs.List.{slice_get, list_all}
use Rattle.std.specs.Option.{option_map}
use Rattle.std.specs.Prelude.{◌==◌, nat_lt, if◌then◌else◌}
use Rattle.dx_base.specs.Lists.{changed_at}
use Rattle.dx_base.specs.Effects.{changed_by}
use Rattle.dx_base.specs.declared.ids.QueueId.{QueueId}
use Rattle.dx_base.proofs.Lists.{length_changed, get_changed, get_changed_other, get_or_changed, get_or_changed_other}
use Rattle.d3d_machine.specs.declared.world.World.{World}
use Rattle.d3d_machine.specs.declared.events.Listed.{Listed}
use Rattle.d3d_machine.specs.declared.events.Operation.{Operation}
use Rattle.d3d_machine.specs.declared.events.Operation.TheVariants.{Execute, Signal}
use Rattle.d3d_machine.specs.declared.events.Event.{Event}
use Rattle.d3d_machine.specs.declared.events.Event.TheVariants as event
use Rattle.d3d_machine.specs.State.{State, called_of}
use Rattle.d3d_machine.specs.Effects.{with_one, head_of, dropped, desk_after_operation}
use Rattle.d3d_machine.specs.Play.{SameButWords, state_after}
use Rattle.d3d_machine.specs.Operations.{operations, counter, completions_by}
use Rattle.d3d_machine.proofs.Operations.{HoldsRest, called_after}
use Rattle.vk_types.specs.declared.batches.Batch.{Batch}
use Rattle.vk_port.specs.declared.lanes.Lane.{Lane}
use Rattle.vk_port.specs.declared.lanes.Running.{Running}
use Rattle.vk_port.specs.declared.steps.Stepped.TheVariants.{Passed, Ran, Bumped}
use Rattle.vk_port.specs.Journal.{next_number, of_queue, first_number}
use Rattle.vk_port.specs.Meaning.{IsBump, IsEnabled}
use Rattle.vk_port.proofs.Valid.{step_valid}
use Rattle.vk_port.proofs.Lists.{item_at, get_of_take}
use Rattle.d3d_machine.proofs.Runs.{run_append}
use Rattle.dx_base.specs.declared.kinds.ListType.{ListType}
use Rattle.sys_core.proofs.PastParts.{past_completion}
use Rattle.d3d_machine.specs.Past.{past}
use Rattle.sys_core.proofs.Standing.{stands_complete}
use Rattle.sys_core.proofs.Holding.{held_complete, held_event}
use Rattle.d3d_machine.proofs.Operations.{counter_append}
use Rattle.vk_port.proofs.Matching.{step_matches}
use Rattle.vk_port.specs.Valid.{IsValid, IsLane, Matches, batch_of}
use Rattle.vk_port.specs.VkState.{VkState, lane_of, no_lane, counter_of}
use Rattle.vk_port.specs.After.{with_done, place_of, after_step, lane_after_bump, lane_after_pass, lane_after_run, after_sets, sets_of}
use Rattle.sys_core.specs.declared.parts.Signalled.{Signalled}
use Rattle.sys_core.specs.Lowering.{startup, opening_batches, plan_of_world}
use Rattle.d3d_machine.specs.Fences.{operation_sets}
use Rattle.std.proofs.lemmas.Bool.{eq-eqb}
use Rattle.sys_core.specs.Parts.{place_since, Queued, with_number, signal_at, without, without_first, updated_by}
use Rattle.sys_core.specs.Stands.{Stands, StandsAt}
use Rattle.sys_core.specs.Steps.{submitted_of}
use Rattle.sys_core.specs.declared.parts.Seat.{Seat}
use Rattle.sys_core.specs.Consistent.{ArePast, IsHeld, AreHeld, IsConsistent, IsDevice, finished_of, signals_of}
use Rattle.sys_core.proofs.Standing.{first_number_suc, submitted_is}
use Rattle.sys_core.proofs.Startup.{begins_of, begins_by}
use Rattle.sys_core.proofs.Holding.{drop_here, slice_get_drop}
use Rattle.sys_core.proofs.Lowered.{IsBatch, lowered_member, of_queue_member, number_at}

drop_long : {A : Type 0} (n : ℕ) (xs ys : List A) → ys ≡ drop n xs → 0 < length ys → (n ≡ length xs - length ys) × (n < length xs)
drop_long n xs ys is some =
    let long : length ys ≡ length xs - n = ap length is ∙ length-drop n xs in
    (omega arith, omega arith)

-- the first unfinished batch of a queue, by its number
pub record IsFirst (w : World) (v : VkState) (q n : ℕ) (b : Batch) : Type 0 where
  pub finished : first_number q + finished_of v q ≡ n
  pub lane_some : 0 < length (lane_of v q).batches
  pub lane_within : q < length v.lanes
  pub few : length (lane_of v q).batches ≤ length (of_queue q v.journal)
  pub at : slice_get (of_queue q v.journal) (finished_of v q) ≡ Some b
  pub number : b.number ≡ n
  pub sets : sets_of (lane_of v q) ≡ b.sets

pub first_is : (w : World) (v : VkState) (q n : ℕ) → IsValid v → IsBump v q n → (b : Batch) × IsFirst w v q n b
first_is w v q n valid bump =
    let lane_is : lane_of v q ≡ bump.lane = get_or_from_slice_get v.lanes q bump.lane no_lane bump.there in
    let lane : IsLane (of_queue q v.journal) (lane_of v q) = valid.lanes q in
    let j : List Batch = of_queue q v.journal in
    let front : slice_get (lane_of v q).batches 0 ≡ Some bump.first = ap (λ (l : Lane). slice_get l.batches 0) lane_is ∙ bump.is_first in
    let some : 0 < length (lane_of v q).batches = slice_get_within (lane_of v q).batches 0 bump.first front in
    let mapped : length (map batch_of (lane_of v q).batches) ≡ length (lane_of v q).batches = length-map (lane_of v q).batches batch_of in
    let count : (lane.finished ≡ length j - length (map batch_of (lane_of v q).batches)) × (lane.finished < length j) =
    drop_long lane.finished j (map batch_of (lane_of v q).batches) lane.are_last (omega (arith, some, mapped)) in
    let finished : lane.finished ≡ finished_of v q = omega (arith, count.0, mapped) in
    let here : slice_get j lane.finished ≡ Some bump.first.batch =
    sym (slice_get_drop lane.finished j) ∙ ap (λ xs. slice_get xs 0) (sym lane.are_last) ∙ slice_get-map batch_of (lane_of v q).batches 0 ∙ ap (option_map batch_of) front in
    let number : bump.first.batch.number ≡ first_number q + lane.finished = number_at (first_number q) j lane.finished bump.first.batch (valid.numbered q) here in (
      bump.first.batch,
      record {
        finished = ap (λ k. first_number q + k) (sym finished) ∙ sym number ∙ bump.number;
        lane_some = some;
        lane_within = slice_get_within v.lanes q bump.lane bump.there;
        few = omega (arith, ap length lane.are_last, length-drop lane.finished j, mapped);
        at = ap (slice_get j) (sym finished) ∙ here;
        number = bump.number;
        sets = ap (λ (o : Option Running). elim o [ None ↦ [] | Some first ↦ first.batch.sets ]) front;
      },
    )

-- the operation whose batch ends
pub record IsEnding (w : World) (h : List Event) (v : VkState) (q n : ℕ) (o : Operation) : Type 0 where
  pub counter_is : counter h q ≡ n - 1
  pub called : slice_get (operations w h q) (n - 1) ≡ Some o
  pub sets : sets_of (lane_of v q) ≡ (q, n) ∷ []
  pub less : n - 1 < submitted_of v q
  pub some : 0 < n

pub eqb_other : (a b : ℕ) → a ≢ b → (a == b) ≡ false
eqb_other a b ne = elim (eqb_tells a b) [ inl same ↦ absurd (ne same.1) | inr other ↦ other.0 ]

-- a batch of another number than 0 stands behind the start-up's
behind_startup : (w : World) (q n k : ℕ) (rest : List Batch) (b : Batch) → first_number q + k ≡ n → 0 < n → slice_get (of_queue q (startup w ∷ rest)) k ≡ Some b →
    slice_get (of_queue q rest) (n - 1) ≡ Some b
behind_startup w zero n k rest b number some at =
    let k_is : k ≡ suc (n - 1) = omega (arith, number, some) in ap (λ i. slice_get (startup w ∷ of_queue 0 rest) i) (sym k_is) ∙ at
behind_startup w (suc q) n k rest b number some at =
    let k_is : k ≡ n - 1 = omega (arith, ap (λ i. i + k) (first_number_suc q), number) in
    let other : (0 == suc q) ≡ false = (eqb_other 0 (suc q) (λ e. omega (arith, e))) in
    ap (slice_get (of_queue (suc q) rest)) (sym k_is)
    ∙ ap (λ t. slice_get (cond t (startup w ∷ of_queue (suc q) rest) (of_queue (suc q) rest)) k) (sym other) ∙ at

pub ending_is : (w : World) (h : List Event) (v : VkState) (q n : ℕ) (b : Batch) → IsDevice w h v → q < length w.queues → IsFirst w v q n b → 0 < n →
    (o : Operation) × IsEnding w h v q n o
ending_is w h v q n b device within first some =
    let stands : Stands w h v = device.stands in
    let begins : v.journal ≡ startup w ∷ stands.rest = begins_of w h v stands (omega (arith, within)) in
    let behind : slice_get (of_queue q stands.rest) (n - 1) ≡ Some b =
    behind_startup w q n (finished_of v q) stands.rest b first.finished some (ap (λ (j : List Batch). slice_get (of_queue q j) (finished_of v q)) (sym begins) ∙ first.at) in
    let member : (j : ℕ) × (slice_get stands.rest j ≡ Some b) × (b.queue ≡ q) = of_queue_member q stands.rest (n - 1) b behind in
    let found : (o : Operation) × IsBatch w h b o = lowered_member w h 0 (opening_batches w) stands.rest member.0 b stands.lowered_rest member.1 in
    let count : submitted_of v q ≡ length (of_queue q stands.rest) = submitted_is w v stands.rest q begins (stands.queues q within).numbered in (
      found.0,
      record {
        counter_is = device.finished q within ∙ ap (λ k. k - 1) first.finished;
        called = ap (λ k. slice_get (operations w h q) (k - 1)) (sym first.number) ∙ ap (λ p. slice_get (operations w h p) (b.number - 1)) (sym member.2) ∙ found.1.called;
        sets = first.sets ∙ found.1.sets ∙ ap (λ p. (p, b.number) ∷ []) member.2 ∙ ap (λ k. (q, k) ∷ []) first.number;
        less = omega (arith, count, slice_get_within (of_queue q stands.rest) (n - 1) b behind);
        some = some;
      },
    )

-- signals among operations are numbered from the first operation's number on
numbers_rise : (m : ℕ) (os : List Operation) (s : Signalled) → slice_get (signals_of m os) 0 ≡ Some s → m ≤ s.number
numbers_rise m [] s is = absurd (cc)
numbers_rise m (Execute cs ∷ os) s is = omega (arith, numbers_rise (m + 1) os s is)
numbers_rise m (Signal f v ∷ os) s is =
    let same : m ≡ s.number = ap (λ (x : Signalled). x.number) (let e : record { number = m; fence = f; value = v } ≡ s = grind arith in e) in omega arith

-- the first submitted signal, where its operation is the one that ends
abbrev pub signal_by : ℕ → Operation → Option Signalled
signal_by n (Execute cs) = None
signal_by n (Signal f v) = Some (record { number = n; fence = f; value = v })

unless_number : (n : ℕ) (o : Option Signalled) → ((s : Signalled) → o ≡ Some s → n + 1 ≤ s.number) →
    with_number n o ≡ None
unless_number n None later = refl
unless_number n (Some s) later =
    elim (eqb_tells s.number n) [
      | inl same ↦ absurd (omega (arith, later s refl, same.1))
      | inr other ↦ ap (λ t. if t then Some s else None) other.0
    ]

-- the first submitted signal is that of the operation that ends, where that is a signal
signal_found : (n : ℕ) (o : Operation) (more : List Operation) (x : Queued) → x.signals ≡ signals_of n (o ∷ more) → signal_at n x ≡ signal_by n o
signal_found n (Execute cs) more x is =
    ap (λ ss. with_number n (slice_get ss 0)) is
    ∙ unless_number n (slice_get (signals_of (n + 1) more) 0) (λ s at. numbers_rise (n + 1) more s at)
signal_found n (Signal f v) more x is =
    ap (λ ss. with_number n (slice_get ss 0)) is
    ∙ ap (λ t. if t then signal_by n (Signal f v) else None) (eq-eqb n n refl)

-- a queue without the signal of the operation that ends
without_is : (n : ℕ) (o : Operation) (x : Queued) → (without (signal_by n o) x).signals ≡ without_first o x.signals
without_is n (Execute cs) x = refl
without_is n (Signal f v) x = refl

without_keeps : (s : Option Signalled) (x : Queued) → ((without s x).submitted ≡ x.submitted) × ((without s x).last_signal ≡ x.last_signal) × ((without s x).operations ≡ x.operations)
without_keeps None x = (refl, refl, refl)
without_keeps (Some s) x = (refl, refl, refl)

-- the steps that end no batch: the batches of each lane are as many, the journal and the timelines stay
same_batches : (v u : VkState) (q : ℕ) → u.journal ≡ v.journal → ((p : ℕ) → length (lane_of u p).batches ≡ length (lane_of v p).batches) → finished_of u q ≡ finished_of v q
same_batches v u q journal lanes = omega (arith, ap (λ j. length (of_queue q j)) journal, lanes q)

lane_length : (f : Lane → Lane) (q p : ℕ) (v : VkState) → ((l : Lane) → length (f l).batches ≡ length l.batches) →
    length (get_or (changed_at f q v.lanes) p no_lane).batches ≡ length (lane_of v p).batches
lane_length f q p v keeps = by_lanes q p v.lanes
  where
    by_lanes : (q p : ℕ) (ls : List Lane) → length (get_or (changed_at f q ls) p no_lane).batches ≡ length (get_or ls p no_lane).batches
    by_lanes q p [] = refl
    by_lanes zero zero (l ∷ ls) = keeps l
    by_lanes zero (suc p) (l ∷ ls) = refl
    by_lanes (suc q) zero (l ∷ ls) = refl
    by_lanes (suc q) (suc p) (l ∷ ls) = by_lanes q p ls

-- the device after a step that ends no operation's batch
device_goes : (w : World) (h : List Event) (v u : VkState) → IsDevice w h v → IsValid u → Matches (plan_of_world w) u → u.journal ≡ v.journal →
    ((q : ℕ) → q < length w.queues → counter_of u q ≡ counter_of v q) → ((q : ℕ) → q < length w.queues → (first_number q + finished_of u q) - 1 ≡ (first_number q + finished_of v q) - 1) →
    (0 < finished_of u 0 → counter_of u (length w.queues) ≡ 1) → (finished_of u 0 ≡ 0 → counter_of u (length w.queues) ≡ 0) → IsDevice w h u
device_goes w h v u is valid objects journal counters finished opening unopened = record {
  valid = valid;
  objects = objects;
  stands = record {
    rest = is.stands.rest;
    begins = journal ∙ is.stands.begins;
    lowered_rest = is.stands.lowered_rest;
    queues = λ q within. let at : StandsAt w h is.stands.rest v q = is.stands.queues q within in
        record { numbered = at.numbered; of_called = at.of_called; counter_is = counters q within ∙ at.counter_is; done = at.done };
  };
  named = ap (list_all (λ b. nat_lt b.queue (length w.queues))) journal ∙ is.named;
  finished = λ q within. is.finished q within ∙ sym (finished q within);
  opening = opening;
  unopened = unopened;
}

-- the held operations look at the device's journal alone
held_goes : (w : World) (h : List Event) (v u : VkState) (held : List Queued) → u.journal ≡ v.journal → AreHeld w h v held → AreHeld w h u held
held_goes w h v u held journal are = record {
  count = are.count;
  each = λ q x at. let is : IsHeld w h v q x = are.each q x at in
      record { submitted_is = is.submitted_is ∙ ap (λ j. next_number q j - 1) (sym journal); within = is.within; rest = is.rest; last_is = is.last_is; pending = is.pending };
}

-- a step that ends no operation's batch
consistent_goes : (w : World) (h : List Event) (lists : List Listed) (seats : List Seat) (fences : List (List ℕ)) (held : List Queued) (v u : VkState) →
    IsConsistent w h lists seats fences held v → u.journal ≡ v.journal → IsDevice w h u → IsConsistent w h lists seats fences held u
consistent_goes w h lists seats fences held v u is journal device = record {
  world = is.world;
  run = is.run;
  past_is = is.past_is;
  held_are = held_goes w h v u held journal is.held_are;
  device = device;
}

pub consistent_pass : (w : World) (h : List Event) (lists : List Listed) (seats : List Seat) (fences : List (List ℕ)) (held : List Queued) (v : VkState) (q n : ℕ) →
    IsConsistent w h lists seats fences held v → IsEnabled v (Passed q n) → IsConsistent w h lists seats fences held (after_step v (Passed q n))
consistent_pass w h lists seats fences held v q n is enabled =
    let u : VkState = after_step v (Passed q n) in
    consistent_goes w h lists seats fences held v u is refl
    (device_goes w h v u is.device (step_valid v (Passed q n) enabled is.device.valid) (step_matches (plan_of_world w) v (Passed q n) is.device.objects) refl (λ p within. refl)
    (λ p within. ap (λ k. (first_number p + k) - 1) (same_batches v u p refl (λ i. lane_length lane_after_pass q i v (λ l. refl))))
    (λ some. is.device.opening (omega (arith, some, same_batches v u 0 refl (λ i. lane_length lane_after_pass q i v (λ l. refl)))))
    (λ none. is.device.unopened (omega (arith, none, same_batches v u 0 refl (λ i. lane_length lane_after_pass q i v (λ l. refl))))))

pub consistent_run : (w : World) (h : List Event) (lists : List Listed) (seats : List Seat) (fences : List (List ℕ)) (held : List Queued) (v : VkState) (q n k : ℕ) →
    IsConsistent w h lists seats fences held v → IsEnabled v (Ran q n k) → IsConsistent w h lists seats fences held (after_step v (Ran q n k))
consistent_run w h lists seats fences held v q n k is enabled =
    let u : VkState = after_step v (Ran q n k) in
    consistent_goes w h lists seats fences held v u is refl
    (device_goes w h v u is.device (step_valid v (Ran q n k) enabled is.device.valid) (step_matches (plan_of_world w) v (Ran q n k) is.device.objects) refl (λ p within. refl)
    (λ p within. ap (λ i. (first_number p + i) - 1) (same_batches v u p refl (λ i. lane_length (lane_after_run n k) q i v (λ l. length_changed (with_done k) l.batches (place_of n l.batches)))))
    (λ some. is.device.opening (omega (arith, some, same_batches v u 0 refl (λ i. lane_length (lane_after_run n k) q i v (λ l. length_changed (with_done k) l.batches (place_of n l.batches))))))
    (λ none. is.device.unopened (omega (arith, none, same_batches v u 0 refl (λ i. lane_length (lane_after_run n k) q i v (λ l. length_changed (with_done k) l.batches (place_of n l.batches)))))))

-- the queue has one more finished batch
finished_bump : (w : World) (v : VkState) (q n : ℕ) (b : Batch) → IsFirst w v q n b → finished_of (after_step v (Bumped q n)) q ≡ finished_of v q + 1
finished_bump w v q n b first =
    let lane : lane_of (after_step v (Bumped q n)) q ≡ lane_after_bump (lane_of v q) = get_or_changed lane_after_bump v.lanes q no_lane first.lane_within in
    let fewer : length (lane_of (after_step v (Bumped q n)) q).batches ≡ length (lane_of v q).batches - 1 =
    ap (λ (l : Lane). length l.batches) lane ∙ length-drop 1 (lane_of v q).batches in
    omega (arith, fewer, first.lane_some, first.few)

-- and another queue as many as before
finished_elsewhere : (v : VkState) (q n p : ℕ) → q ≢ p → finished_of (after_step v (Bumped q n)) p ≡ finished_of v p
finished_elsewhere v q n p other =
    ap (λ (l : Lane). length (of_queue p v.journal) - length l.batches) (get_or_changed_other lane_after_bump v.lanes q p no_lane other)

set_there : (i n : ℕ) (ts : List ℕ) → i < length ts → get_or (set ts i n) i 0 ≡ n
set_there i n [] within = absurd (omega arith)
set_there zero n (t ∷ ts) within = refl
set_there (suc i) n (t ∷ ts) within = set_there i n ts (omega arith)

set_elsewhere : (i j n : ℕ) (ts : List ℕ) → i ≢ j → get_or (set ts i n) j 0 ≡ get_or ts j 0
set_elsewhere i j n [] other = refl
set_elsewhere zero zero n (t ∷ ts) other = absurd (other refl)
set_elsewhere zero (suc j) n (t ∷ ts) other = refl
set_elsewhere (suc i) zero n (t ∷ ts) other = refl
set_elsewhere (suc i) (suc j) n (t ∷ ts) other = set_elsewhere i j n ts (λ e. other (ap suc e))

-- the batch of number 0 is the first queue's
pub number_0 : (q k : ℕ) → first_number q + k ≡ 0 → (q ≡ 0) × (k ≡ 0)
number_0 zero k is = (refl, omega (arith, is))
number_0 (suc q) k is = absurd (omega (arith, ap (λ i. i + k) (first_number_suc q), is))

-- the start-up batch sets the start-up timeline to 1
pub start_sets : (w : World) (h : List Event) (v : VkState) (b : Batch) → IsDevice w h v → 0 < length w.queues → IsFirst w v 0 0 b → sets_of (lane_of v 0) ≡ (length w.queues, 1) ∷ []
start_sets w h v b device within first =
    let none : finished_of v 0 ≡ 0 = (number_0 0 (finished_of v 0) first.finished).1 in
    let front : slice_get (of_queue 0 v.journal) 0 ≡ Some b = ap (slice_get (of_queue 0 v.journal)) (sym none) ∙ first.at in
    let b_is : startup w ≡ b =
    let e : Some (startup w) ≡ Some b = ap (λ (j : List Batch). slice_get (of_queue 0 j) 0) (sym (begins_of w h v device.stands within)) ∙ front in grind arith in
    first.sets ∙ ap (λ (x : Batch). x.sets) (sym b_is)

-- the end of the start-up batch, which is the first queue's
start_ends : (w : World) (h : List Event) (lists : List Listed) (seats : List Seat) (fences : List (List ℕ)) (held : List Queued) (v : VkState) (b : Batch) →
    IsConsistent w h lists seats fences held v → 0 < length w.queues → IsEnabled v (Bumped 0 0) → IsFirst w v 0 0 b →
    IsConsistent w h lists seats fences held (after_step v (Bumped 0 0))
start_ends w h lists seats fences held v b is within enabled first =
    let u : VkState = after_step v (Bumped 0 0) in
    let last : ℕ = length w.queues in
    let none : finished_of v 0 ≡ 0 = (number_0 0 (finished_of v 0) first.finished).1 in
    let sets : sets_of (lane_of v 0) ≡ (last, 1) ∷ [] = start_sets w h v b is.device within first in
    let counters : (q : ℕ) → q < length w.queues → counter_of u q ≡ counter_of v q =
    λ q inside. ap (λ ss. get_or (after_sets ss v.timelines) q 0) sets ∙ set_elsewhere last q 1 v.timelines (λ e. omega (arith, inside, e)) in
    let one_more : finished_of u 0 ≡ finished_of v 0 + 1 = finished_bump w v 0 0 b first in
    let finished : (q : ℕ) → q < length w.queues → (first_number q + finished_of u q) - 1 ≡ (first_number q + finished_of v q) - 1 =
    λ q inside.
    elim (eqb_tells 0 q) [
      | inl same ↦ subst (λ k. (first_number k + finished_of u k) - 1 ≡ (first_number k + finished_of v k) - 1) same.1 (omega (arith, one_more, none))
      | inr other ↦ ap (λ k. (first_number q + k) - 1) (finished_elsewhere v 0 0 q other.1)
    ] in
    consistent_goes w h lists seats fences held v u is refl
    (device_goes w h v u is.device (step_valid v (Bumped 0 0) enabled is.device.valid) (step_matches (plan_of_world w) v (Bumped 0 0) is.device.objects) refl counters finished
    (λ some. ap (λ ss. get_or (after_sets ss v.timelines) last 0) sets ∙ set_there last 1 v.timelines (omega (arith, is.device.objects.timelines)))
    (λ none. absurd (omega (arith, none, one_more))))

pub consistent_start : (w : World) (h : List Event) (lists : List Listed) (seats : List Seat) (fences : List (List ℕ)) (held : List Queued) (v : VkState) (q : ℕ) →
    IsConsistent w h lists seats fences held v → q < length w.queues → IsEnabled v (Bumped q 0) → IsConsistent w h lists seats fences held (after_step v (Bumped q 0))
consistent_start w h lists seats fences held v q is within enabled =
    let first : (b : Batch) × IsFirst w v q 0 b = first_is w v q 0 is.device.valid enabled in
    let zeroth : 0 ≡ q = sym (number_0 q (finished_of v q) first.1.finished).0 in
    let start : (p : ℕ) → q ≡ p → IsEnabled v (Bumped p 0) × IsFirst w v p 0 first.0 =
    λ p same. subst (λ k. IsEnabled v (Bumped k 0) × IsFirst w v k 0 first.0) same (enabled, first.1) in
    subst (λ k. IsConsistent w h lists seats fences held (after_step v (Bumped k 0))) zeroth
    (start_ends w h lists seats fences held v first.0 is (omega (arith, within)) (start 0 (sym zeroth)).0 (start 0 (sym zeroth)).1)

operation_lists : (s : State) (o : Option Operation) (q : ℕ) → (desk_after_operation (dropped s.desk q) o).lists ≡ s.desk.lists
operation_lists s None q = refl
operation_lists s (Some (Execute cs)) q = refl
operation_lists s (Some (Signal f v)) q = refl

-- the first submitted signal, by the operation that ends
signal_of_head : (w : World) (h : List Event) (v : VkState) (q n : ℕ) (x : Queued) (o : Operation) → IsHeld w h v q x → IsEnding w h v q n o →
    slice_get (operations w h q) (counter h q) ≡ Some o → counter h q < x.submitted → signal_at n x ≡ signal_by n o
signal_of_head w h v q n x o holds ending called less =
    let os : List Operation = operations w h q in
    let c : ℕ = counter h q in
    let first : slice_get (take x.submitted os) c ≡ Some o = get_of_take x.submitted os c less ∙ called in
    signal_found n o (drop (c + 1) (take x.submitted os)) x
    (holds.pending ∙ ap (signals_of (c + 1)) (drop_here c (take x.submitted os) o first)
    ∙ ap (λ k. signals_of k (o ∷ drop (c + 1) (take x.submitted os))) (omega (arith, ending.counter_is, ending.some)))

updated_is : (n : ℕ) (o : Operation) (fences : List (List ℕ)) → changed_by with_one (operation_sets (Some o)) fences ≡ updated_by (signal_by n o) fences
updated_is n (Execute cs) fences = refl
updated_is n (Signal f v) fences = refl

plus_one : (a b n : ℕ) → a + b ≡ n → (a + (b + 1)) - 1 ≡ n
plus_one a b n is = omega (arith, is)

-- an end completes one operation of its queue, and none of another
completes_here : (q : QueueId) → completions_by q.0 (event.Queue q) ≡ 1
completes_here q = ap (λ t. if t then 1 else 0) (eq-eqb q.0 q.0 refl)

completes_elsewhere : (q : QueueId) (p : ℕ) → (q.0 == p) ≡ false → completions_by p (event.Queue q) ≡ 0
completes_elsewhere q p other = ap (λ t. if t then 1 else 0) other

held_end : (w : World) (h : List Event) (v : VkState) (q : QueueId) (n : ℕ) (o : Operation) (x : Queued) (held : List Queued) → AreHeld w h v held → slice_get held q.0 ≡ Some x →
    counter h q.0 < x.submitted → slice_get (operations w h q.0) (counter h q.0) ≡ Some o →
    AreHeld w (h ++ event.Queue q ∷ []) (after_step v (Bumped q.0 n)) (changed_at (without (signal_by n o)) q.0 held)
held_end w h v q n o x held are at less called =
    let s : Option Signalled = signal_by n o in
    let u : VkState = after_step v (Bumped q.0 n) in
    let e : Event = event.Queue q in
    record {
      count = length_changed (without s) held q.0 ∙ are.count;
      each = λ p y there.
          elim (eqb_tells q.0 p) [
            | inl same ↦
                let here : slice_get (changed_at (without s) q.0 held) q.0 ≡ Some y = ap (slice_get (changed_at (without s) q.0 held)) same.1 ∙ there in
                let is_y : y ≡ without s x = let e : Some (without s x) ≡ Some y = ap (option_map (without s)) (sym at) ∙ sym (get_changed (without s) held q.0) ∙ here in grind arith in
                let keeps : ((without s x).submitted ≡ x.submitted) × ((without s x).last_signal ≡ x.last_signal) × ((without s x).operations ≡ x.operations) = without_keeps s x in
                subst (λ k. IsHeld w (h ++ e ∷ []) u k y) same.1
                (held_complete w h e v u q.0 x y o (are.each q.0 x at) (completes_here q) refl less called refl
                (ap (λ (z : Queued). z.submitted) is_y ∙ keeps.0) (ap (λ (z : Queued). z.last_signal) is_y ∙ keeps.1) (ap (λ (z : Queued). z.operations) is_y ∙ keeps.2)
                (ap (λ (z : Queued). z.signals) is_y ∙ without_is n o x))
            | inr other ↦
                held_event w h e v u p y y (are.each p y (sym (get_changed_other (without s) held q.0 p other.1) ∙ there)) (completes_elsewhere q p other.0) refl refl refl refl
                (sym (append-nil y.operations))
          ];
    }

device_end : (w : World) (h : List Event) (v : VkState) (q : QueueId) (n : ℕ) (b : Batch) (o : Operation) → IsDevice w h v → q.0 < length w.queues →
    IsFirst w v q.0 n b → IsEnding w h v q.0 n o → IsValid (after_step v (Bumped q.0 n)) → IsDevice w (h ++ event.Queue q ∷ []) (after_step v (Bumped q.0 n))
device_end w h v q n b o is within first ending valid =
    let u : VkState = after_step v (Bumped q.0 n) in
    let e : Event = event.Queue q in
    let last : ℕ = length w.queues in
    let now : counter_of u q.0 ≡ n = ap (λ ss. get_or (after_sets ss v.timelines) q.0 0) ending.sets ∙ set_there q.0 n v.timelines (omega (arith, is.objects.timelines, within)) in
    let stays : (p : ℕ) → q.0 ≢ p → counter_of u p ≡ counter_of v p =
    λ p other. ap (λ ss. get_or (after_sets ss v.timelines) p 0) ending.sets ∙ set_elsewhere q.0 p n v.timelines other in
    let before : counter_of v q.0 ≡ n - 1 = (is.stands.queues q.0 within).counter_is ∙ ending.counter_is in
    let one_more : completions_by q.0 e ≡ 1 = completes_here q in
    let begins : v.journal ≡ startup w ∷ is.stands.rest = begins_of w h v is.stands (omega (arith, within)) in
    let count : submitted_of v q.0 ≡ length (of_queue q.0 is.stands.rest) = submitted_is w v is.stands.rest q.0 begins (is.stands.queues q.0 within).numbered in
    let counter_now : counter (h ++ e ∷ []) q.0 ≡ n = omega (arith, counter_append q.0 h e, one_more, ending.counter_is, ending.some) in
    let finished_now : (first_number q.0 + finished_of u q.0) - 1 ≡ n =
    ap (λ k. (first_number q.0 + k) - 1) (finished_bump w v q.0 n b first) ∙ plus_one (first_number q.0) (finished_of v q.0) n first.finished in
    record {
      valid = valid;
      objects = step_matches (plan_of_world w) v (Bumped q.0 n) is.objects;
      stands = stands_complete w h e v u is.stands refl
          (λ p inside. elim (eqb_tells q.0 p) [
            | inl same ↦ subst (λ k. counter_of u k ≡ counter_of v k + completions_by k e) same.1 (omega (arith, now, before, one_more, ending.some))
            | inr other ↦ stays p other.1 ∙ omega (arith, completes_elsewhere q p other.0)
          ])
          (λ p rest opens inside.
          let same_rest : is.stands.rest ≡ rest =
          let both : startup w ∷ is.stands.rest ≡ startup w ∷ rest = sym begins ∙ begins_by w v.journal rest (omega (arith, inside)) opens in grind arith in
          elim (eqb_tells q.0 p) [
            | inl same ↦
                subst (λ k. counter_of v k + completions_by k e ≤ length (of_queue k rest)) same.1
                (omega (arith, before, one_more, ending.less, count, ap (λ r. length (of_queue q.0 r)) same_rest, ending.some))
            | inr other ↦
                omega (
                  arith,
                  completes_elsewhere q p other.0,
                  (is.stands.queues p inside).counter_is,
                  (is.stands.queues p inside).done,
                  ap (λ r. length (of_queue p r)) same_rest,
                )
          ]);
      named = is.named;
      finished = λ p inside. elim (eqb_tells q.0 p) [
        | inl same ↦ subst (λ k. counter (h ++ e ∷ []) k ≡ (first_number k + finished_of u k) - 1) same.1 (counter_now ∙ sym finished_now)
        | inr other ↦
            counter_append p h e ∙ omega (arith, completes_elsewhere q p other.0) ∙ is.finished p inside
            ∙ ap (λ k. (first_number p + k) - 1) (sym (finished_elsewhere v q.0 n p other.1))
      ];
      opening = λ some. stays last (λ e. omega (arith, e, within)) ∙ is.opening (elim (eqb_tells q.0 0) [
        | inl same ↦
            let number : first_number 0 + finished_of v 0 ≡ n = subst (λ k. first_number k + finished_of v k ≡ n) same.1 first.finished in omega (arith, number, ending.some)
        | inr other ↦ omega (arith, some, finished_elsewhere v q.0 n 0 other.1)
      ]);
      unopened = λ none. stays last (λ e. omega (arith, e, within)) ∙ is.unopened (elim (eqb_tells q.0 0) [
        | inl same ↦ absurd (let e : finished_of (after_step v (Bumped q.0 n)) q.0 ≡ 0 = subst (λ k. finished_of (after_step v (Bumped q.0 n)) k ≡ 0) (sym same.1) none in omega (arith, e, finished_bump w v q.0 n b first))
        | inr other ↦ sym (finished_elsewhere v q.0 n 0 other.1) ∙ none
      ]);
    }

-- the end of an operation's batch
pub consistent_end : (w : World) (h : List Event) (lists : List Listed) (seats : List Seat) (fences : List (List ℕ)) (held : List Queued) (v : VkState) (q : QueueId) (n : ℕ) (x : Queued) →
    IsConsistent w h lists seats fences held v → q.0 < length w.queues → 0 < n → IsEnabled v (Bumped q.0 n) → slice_get held q.0 ≡ Some x →
    IsConsistent w (h ++ event.Queue q ∷ []) lists seats (updated_by (signal_at n x) fences) (changed_at (without (signal_at n x)) q.0 held) (after_step v (Bumped q.0 n))
consistent_end w h lists seats fences held v q n x is within some enabled at =
    let u : VkState = after_step v (Bumped q.0 n) in
    let e : Event = event.Queue q in
    let first : (b : Batch) × IsFirst w v q.0 n b = first_is w v q.0 n is.device.valid enabled in
    let ending : (o : Operation) × IsEnding w h v q.0 n o = ending_is w h v q.0 n first.0 is.device within first.1 some in
    let o : Operation = ending.0 in
    let holds : IsHeld w h v q.0 x = is.held_are.each q.0 x at in
    let os : List Operation = operations w h q.0 in
    let c : ℕ = counter h q.0 in
    let called : slice_get os c ≡ Some o = ap (slice_get os) ending.1.counter_is ∙ ending.1.called in
    let less : c < x.submitted = omega (arith, ending.1.counter_is, ending.1.less, holds.submitted_is) in
    let queue : (t : ListType) × (slice_get w.queues q.0 ≡ Some t) = item_at w.queues q.0 within in
    let rest : HoldsRest (state_after w h).desk q.0 c os = called_after SameButWords w q.0 h queue.0 queue.1 is.run in
    let head : slice_get (drop c os) 0 ≡ Some o = slice_get_drop c os ∙ called in
    let called_is : called_of (state_after w h).desk q.0 ≡ drop c os = ap (λ (y : Option (List Operation)). elim y [ None ↦ [] | Some z ↦ z ]) rest.rest in
    let head_is : head_of (state_after w h).desk q.0 ≡ Some o = ap (λ ys. slice_get ys 0) called_is ∙ head in
    let signal : signal_at n x ≡ signal_by n o = signal_of_head w h v q.0 n x o holds ending.1 called less in
    record {
      world = is.world;
      run = run_append w h e is.run (ap (λ ys. nat_lt 0 (length ys)) called_is ∙ lt-ltb 0 (length (drop c os)) (slice_get_within (drop c os) 0 o head));
      past_is =
          subst (ArePast (past w (h ++ e ∷ [])) lists (map place_since seats))
          (ap (λ y. changed_by with_one (operation_sets y) fences) head_is ∙ updated_is n o fences ∙ ap (λ k. updated_by k fences) (sym signal))
          (past_completion w h q lists seats fences is.past_is);
      held_are = subst (λ k. AreHeld w (h ++ e ∷ []) u (changed_at (without k) q.0 held)) (sym signal) (held_end w h v q n o x held is.held_are at less called);
      device = device_end w h v q n first.0 o is.device within first.1 ending.1 (step_valid v (Bumped q.0 n) enabled is.device.valid);
    }
