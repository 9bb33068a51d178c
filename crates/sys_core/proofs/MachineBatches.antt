-- The batches and commands of the machine are those that the device has yet to do.
use Rattle.std.proofs.Common.{ℕ, zero, suc, ◌≡◌, ◌<◌, ◌≤◌, ◌+◌, ◌-◌, ◌∙◌, refl, sym, ap, subst, arith, List, [], ◌∷◌, length, drop, Some, Bool, true, false, slice_get, get_or, inl, inr, eq-eqb}
use Rattle.std.specs.Option.{option_map}
use Rattle.std.specs.Prelude.{nat_lt, ◌==◌, ◌&&◌, if◌then◌else◌}
use Rattle.std.proofs.lemmas.Bool.{eqb-true, cases_lt, lt-ltb, le-ltb}
use Rattle.std.proofs.lemmas.List.{length-map}
use Rattle.std.proofs.lemmas.Option.{slice_get-map, slice_get-get_or, slice_get_within, get_or_from_slice_get}
use Rattle.dx_base.proofs.Lists.{and_both, and_of}
use Rattle.vk_types.specs.declared.batches.Batch.{Batch}
use Rattle.vk_types.specs.declared.commands.VkCommand.{VkCommand}
use Rattle.vk_types.specs.declared.steps.VkStep.TheVariants as vk
use Rattle.vk_sync_rules.specs.NextState.{sets_in}
use Rattle.vk_sync_rules.specs.Runs.{Fits, are_new}
use Rattle.vk_sync_rules.specs.VkState.{VkState as Machine, batch_in, command_in, command_at, nth_command, counts_of}
use Rattle.vk_port.specs.declared.lanes.Lane.{Lane}
use Rattle.vk_port.specs.After.{place_of, found_commands, command_at as view_command, sets_of}
use Rattle.vk_port.specs.Journal.{of_queue, first_number, are_numbered}
use Rattle.vk_port.specs.Machine.{IsCounted, from_number, lanes_from, lanes_of, running_of, shown, unfinished}
use Rattle.vk_port.specs.Meaning.{IsCommand, IsBump}
use Rattle.vk_port.specs.Valid.{IsLane, IsValid, batch_of}
use Rattle.vk_port.specs.VkState.{lane_of, no_lane, counter_of}
use Rattle.vk_port.proofs.Falls.{valid_place}
use Rattle.d3d_machine.specs.declared.world.World.{World}
use Rattle.d3d_machine.specs.declared.events.Event.{Event}
use Rattle.d3d_machine.specs.declared.events.Operation.{Operation}
use Rattle.sys_core.specs.Consistent.{IsDevice, finished_of}
use Rattle.sys_core.proofs.Bumping.{IsFirst, first_is, IsEnding, ending_is, start_sets, number_0, eqb_other}
use Rattle.sys_core.proofs.Lowered.{number_at}

batch_by : (q k : ℕ) (c : Batch) (bs : List Batch) (b : Batch) (t : Bool) → (c.queue == q) ≡ t →
    ((k i : ℕ) → are_numbered k (of_queue q bs) ≡ true → slice_get (of_queue q bs) i ≡ Some b → batch_in q b.number bs ≡ Some b) →
    (i : ℕ) → are_numbered k (if t then c ∷ of_queue q bs else of_queue q bs) ≡ true → slice_get (if t then c ∷ of_queue q bs else of_queue q bs) i ≡ Some b →
    batch_in q b.number (c ∷ bs) ≡ Some b
batch_by q k c bs b false is rest i numbered at =
    ap (λ (t : Bool). if (t && (c.number == b.number)) then Some c else batch_in q b.number bs) is ∙ rest k i numbered at
batch_by q k c bs b true is rest zero numbered at =
    let same : c ≡ b = grind arith in
    ap (λ (t : Bool). if (t && (c.number == b.number)) then Some c else batch_in q b.number bs) is
    ∙ ap (λ (t : Bool). if t then Some c else batch_in q b.number bs) (eq-eqb c.number b.number (ap (λ (x : Batch). x.number) same)) ∙ at
batch_by q k c bs b true is rest (suc i) numbered at =
    let both : ((c.number == k) ≡ true) × (are_numbered (k + 1) (of_queue q bs) ≡ true) = and_both (c.number == k) (are_numbered (k + 1) (of_queue q bs)) numbered in
    let number : b.number ≡ (k + 1) + i = number_at (k + 1) (of_queue q bs) i b both.1 at in
    let first : c.number ≡ k = eqb-true c.number k both.0 in
    ap (λ (t : Bool). if (t && (c.number == b.number)) then Some c else batch_in q b.number bs) is
    ∙ ap (λ (t : Bool). if t then Some c else batch_in q b.number bs) (eqb_other c.number b.number (λ e. omega (arith, e, number, first)))
    ∙ rest (k + 1) i both.1 at

-- a batch of a queue is the one that is found by its number
pub batch_at : (q k : ℕ) (bs : List Batch) (i : ℕ) (b : Batch) → are_numbered k (of_queue q bs) ≡ true → slice_get (of_queue q bs) i ≡ Some b → batch_in q b.number bs ≡ Some b
batch_at q k [] i b numbered at = absurd (cc)
batch_at q k (c ∷ bs) i b numbered at = batch_by q k c bs b (c.queue == q) refl (λ l j n there. batch_at q l bs j b n there) i numbered at

drop_at : {A : Type 0} (n i j : ℕ) (xs : List A) → j ≡ n + i → slice_get (drop n xs) i ≡ slice_get xs j
drop_at zero i j xs is = ap (slice_get xs) (omega (arith, is))
drop_at (suc n) i j [] is = refl
drop_at (suc n) i zero (x ∷ xs) is = absurd (omega (arith, is))
drop_at (suc n) i (suc j) (x ∷ xs) is = drop_at n i j xs (omega (arith, is))

nth_is : (cs : List VkCommand) (k : ℕ) → 1 ≤ k → nth_command cs k ≡ slice_get cs (k - 1)
nth_is cs zero some = absurd (omega (arith, some))
nth_is cs (suc k) some = ap (slice_get cs) (let e : k ≡ suc k - 1 = omega arith in e)

-- the batch of a command that can run, with its place in the journal
pub record IsRunning (m : Machine) (q n k : ℕ) (e : IsCommand (shown m) q n k) : Type 0 where
  pub index : ℕ
  pub at : slice_get (of_queue q m.journal) index ≡ Some e.running.batch
  pub batch : batch_in q n m.journal ≡ Some e.running.batch
  -- the command as the machine finds it, and as the device does
  pub command : command_at m q (record { number = n; index = k }) ≡ Some e.command
  pub seen : view_command n k (lane_of (shown m) q).batches ≡ Some e.command

pub running_is : (m : Machine) (q n k : ℕ) → IsValid (shown m) → (e : IsCommand (shown m) q n k) → IsRunning m q n k e
running_is m q n k valid e =
    let lane_is : lane_of (shown m) q ≡ e.lane = get_or_from_slice_get (lanes_of m) q e.lane no_lane e.there in
    let lane : IsLane (of_queue q m.journal) (lane_of (shown m) q) = valid.lanes q in
    let there : slice_get (lane_of (shown m) q).batches e.place ≡ Some e.running = ap (λ (l : Lane). slice_get l.batches e.place) lane_is ∙ e.is_running in
    let at : slice_get (of_queue q m.journal) (lane.finished + e.place) ≡ Some e.running.batch =
    sym (drop_at lane.finished e.place (lane.finished + e.place) (of_queue q m.journal) refl) ∙ ap (λ bs. slice_get bs e.place) (sym lane.are_last)
    ∙ slice_get-map batch_of (lane_of (shown m) q).batches e.place ∙ ap (option_map batch_of) there in
    let found : batch_in q e.running.batch.number m.journal ≡ Some e.running.batch =
    batch_at q (first_number q) m.journal (lane.finished + e.place) e.running.batch (valid.numbered q) at in
    let batch : batch_in q n m.journal ≡ Some e.running.batch =
    ap (λ i. batch_in q i m.journal) (sym e.number) ∙ found in
    let within : q < length (lanes_of m) = slice_get_within (lanes_of m) q e.lane e.there in
    let place : place_of e.running.batch.number (lane_of (shown m) q).batches ≡ e.place =
    valid_place (shown m) valid q (lane_of (shown m) q) (slice_get-get_or (lanes_of m) q no_lane within) e.place e.running there in
    record {
      index = lane.finished + e.place;
      at = at;
      batch = batch;
      command = ap (λ o. command_in o k) batch ∙ nth_is e.running.batch.commands k e.counted ∙ e.is_command;
      seen = ap (λ i. view_command i k (lane_of (shown m) q).batches) (sym e.number)
          ∙ ap (λ i. slice_get (found_commands (slice_get (lane_of (shown m) q).batches i)) (k - 1)) place
          ∙ ap (λ o. slice_get (found_commands o) (k - 1)) there ∙ e.is_command;
    }

-- the end of a batch sets new values
pub end_fits : (w : World) (h : List Event) (m : Machine) (q n : ℕ) → IsDevice w h (shown m) → q < length w.queues → IsBump (shown m) q n → Fits m (vk.Bump q n)
end_fits w h m q n device within bump = by_number n refl
  where
    first : (b : Batch) × IsFirst w (shown m) q n b
    first = first_is w (shown m) q n device.valid bump

    batch : batch_in q n m.journal ≡ Some first.0
    batch =
        ap (λ i. batch_in q i m.journal) (sym first.1.number)
        ∙ batch_at q (first_number q) m.journal (finished_of (shown m) q) first.0 (device.valid.numbered q) first.1.at

    sets_are : (sets : List (ℕ × ℕ)) → sets_of (lane_of (shown m) q) ≡ sets → are_new m.timelines sets ≡ true → are_new m.timelines (sets_in (batch_in q n m.journal)) ≡ true
    sets_are sets is new =
        ap (λ o. are_new m.timelines (sets_in o)) batch
        ∙ ap (are_new m.timelines) (sym first.1.sets ∙ is) ∙ new

    by_number : (k : ℕ) → n ≡ k → are_new m.timelines (sets_in (batch_in q n m.journal)) ≡ true
    by_number zero is =
        let zeroth : (q ≡ 0) × (finished_of (shown m) q ≡ 0) = number_0 q (finished_of (shown m) q) (first.1.finished ∙ is) in
        let start : IsFirst w (shown m) 0 0 first.0 = subst (λ i. IsFirst w (shown m) i 0 first.0) zeroth.0 (subst (λ i. IsFirst w (shown m) q i first.0) is first.1) in
        let none : finished_of (shown m) 0 ≡ 0 = subst (λ i. finished_of (shown m) i ≡ 0) zeroth.0 zeroth.1 in
        let sets : sets_of (lane_of (shown m) q) ≡ (length w.queues, 1) ∷ [] = subst (λ i. sets_of (lane_of (shown m) i) ≡ (length w.queues, 1) ∷ []) (sym zeroth.0) (start_sets w h (shown m) first.0 device (omega (arith, within)) start) in
        sets_are ((length w.queues, 1) ∷ []) sets
        (and_of (nat_lt (counter_of (shown m) (length w.queues)) 1) true (lt-ltb (counter_of (shown m) (length w.queues)) 1 (omega (arith, device.unopened none))) refl)
    by_number (suc k) is =
        let ending : (o : Operation) × IsEnding w h (shown m) q n o = ending_is w h (shown m) q n first.0 device within first.1 (omega (arith, is)) in
        let before : counter_of (shown m) q ≡ n - 1 = (device.stands.queues q within).counter_is ∙ ending.1.counter_is in
        sets_are ((q, n) ∷ []) ending.1.sets (and_of (nat_lt (counter_of (shown m) q) n) true (lt-ltb (counter_of (shown m) q) n (omega (arith, before, is))) refl)

lanes_long : (m : Machine) (q k : ℕ) → length (lanes_from m q k) ≡ k
lanes_long m q zero = refl
lanes_long m q (suc k) = ap suc (lanes_long m (q + 1) k)

lane_at : (m : Machine) (i k q j : ℕ) → i < k → j ≡ q + i → get_or (lanes_from m q k) i no_lane ≡ unfinished m j
lane_at m i zero q j within is = absurd (omega (arith, within))
lane_at m zero (suc k) q j within is = ap (unfinished m) (let e : q ≡ j = omega (arith, is) in e)
lane_at m (suc i) (suc k) q j within is = lane_at m i k (q + 1) j (omega (arith, within)) (omega (arith, is))

-- the device has a lane for each queue of the machine
pub queues_many : (m : Machine) → length (lanes_of m) ≡ length m.queues
queues_many m = lanes_long m 0 (length m.queues)

all_left : (e k : ℕ) (bs : List Batch) → are_numbered k bs ≡ true → e ≤ k → length (from_number e bs) ≡ length bs
all_left e k [] numbered le = refl
all_left e k (b ∷ bs) numbered le =
    let both : ((b.number == k) ≡ true) × (are_numbered (k + 1) bs ≡ true) = and_both (b.number == k) (are_numbered (k + 1) bs) numbered in
    let number : b.number ≡ k = eqb-true b.number k both.0 in
    ap (λ (t : Bool). length (if t then from_number e bs else b ∷ from_number e bs)) (le-ltb b.number e (omega (arith, number, le)))
    ∙ ap suc (all_left e (k + 1) bs both.1 (omega (arith, le)))

left_long : (e k : ℕ) (bs : List Batch) → are_numbered k bs ≡ true → k ≤ e → length (from_number e bs) ≡ (k + length bs) - e
left_long e k [] numbered le = omega (arith, le)
left_long e k (b ∷ bs) numbered le =
    let both : ((b.number == k) ≡ true) × (are_numbered (k + 1) bs ≡ true) = and_both (b.number == k) (are_numbered (k + 1) bs) numbered in
    let number : b.number ≡ k = eqb-true b.number k both.0 in
    elim (cases_lt k e) [
      | inl less ↦
          ap (λ (t : Bool). length (if t then from_number e bs else b ∷ from_number e bs)) (lt-ltb b.number e (omega (arith, number, less)))
          ∙ left_long e (k + 1) bs both.1 (omega (arith, less)) ∙ omega arith
      | inr past ↦
          let same : e ≡ k = omega (arith, le, past) in
          ap (λ (t : Bool). length (if t then from_number e bs else b ∷ from_number e bs)) (le-ltb b.number e (omega (arith, number, same)))
          ∙ ap suc (all_left e (k + 1) bs both.1 (omega (arith, same))) ∙ omega (arith, same)
    ]

-- the number of the next batch to end
pub ended_is : (m : Machine) (q : ℕ) → IsCounted m → q < length m.queues → (counts_of m q).ended ≡ first_number q + finished_of (shown m) q
ended_is m q counted within =
    let e : ℕ = (counts_of m q).ended in
    let lane : lane_of (shown m) q ≡ unfinished m q = lane_at m q (length m.queues) 0 q within (omega arith) in
    let left : length (from_number e (of_queue q m.journal)) ≡ (first_number q + length (of_queue q m.journal)) - e = left_long e (first_number q) (of_queue q m.journal) (counted.numbered q) (counted.first_ended q within) in
    let long : length (lane_of (shown m) q).batches ≡ length (from_number e (of_queue q m.journal)) =
    ap (λ (l : Lane). length l.batches) lane ∙ length-map (from_number e (of_queue q m.journal)) (running_of m.done q) in
    omega (arith, left, long, counted.next q within, counted.ended_passed q, counted.passed_submitted q, counted.first_ended q within)
