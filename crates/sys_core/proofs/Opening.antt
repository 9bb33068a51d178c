-- The system is consistent before any call, when the start-up batch is submitted.
use Rattle.std.proofs.Common.{ℕ, zero, suc, ◌≡◌, ◌≢◌, ◌<◌, ◌+◌, ◌-◌, ◌∙◌, sym, ap, subst, refl, arith, List, [], ◌∷◌, length, map, Some, true, false, get_or, replicate, ◌++◌, ◌≤◌, inl, inr, cond}
use Rattle.std.proofs.lemmas.Bool.{cases_lt, lt-ltb}
use Rattle.std.proofs.lemmas.Bool.Decides.{eqb_tells}
use Rattle.std.proofs.lemmas.List.{length-map, length-replicate}
use Rattle.std.proofs.lemmas.Option.{slice_get_within}
use Rattle.std.specs.List.{slice_get}
use Rattle.std.specs.Prelude.{◌&&◌, ◌==◌, if◌then◌else◌}
use Rattle.dx_base.proofs.Lists.{get_or_changed, get_or_changed_other}
use Rattle.d3d_machine.specs.declared.world.World.{World}
use Rattle.d3d_machine.specs.declared.calls.Call.{Call}
use Rattle.d3d_machine.specs.World.{IsWorld}
use Rattle.d3d_machine.specs.State.{declared_list}
use Rattle.vk_types.specs.declared.plan.DevicePlan.{DevicePlan}
use Rattle.vk_port.specs.declared.lanes.Lane.{Lane}
use Rattle.vk_types.specs.declared.batches.Batch.{Batch}
use Rattle.vk_port.specs.Journal.{first_number, number_after, of_queue}
use Rattle.vk_port.specs.VkState.{VkState, lane_of, no_lane, first_state as first_device}
use Rattle.vk_port.specs.After.{after_submit, lane_after_submit}
use Rattle.vk_port.proofs.Valid.{first_valid, submit_valid}
use Rattle.vk_port.proofs.Matching.{first_matches, submit_matches}
use Rattle.sys_core.specs.Lowering.{plan_of_world, startup}
use Rattle.sys_core.specs.Opened.{opened}
use Rattle.vk_port.specs.Machine.{shown}
use Rattle.sys_core.proofs.MachineSteps.{machine_open}
use Rattle.d3d_machine.specs.Past.{first_place}
use Rattle.sys_core.specs.Parts.{place_since, Queued, no_queue, opening_seat}
use Rattle.sys_core.specs.Steps.{submitted_of}
use Rattle.sys_core.specs.Consistent.{IsHeld, AreHeld, IsDevice, IsConsistent, finished_of}
use Rattle.sys_core.proofs.Startup.{opening_is, opening_none, after_submissions}

-- the device when the start-up batch is submitted
abbrev begun : World → VkState
begun w = after_submit (first_device (plan_of_world w)) (startup w)

places_open : (scripts : List (List Call)) → map place_since (map (λ _. opening_seat) scripts) ≡ map (λ _. first_place) scripts
places_open [] = refl
places_open (x ∷ xs) = ap (λ ys. first_place ∷ ys) (places_open xs)

const_of : {A : Type 0} (n q : ℕ) (x : A) → get_or (replicate n x) q x ≡ x
const_of zero q x = refl
const_of (suc n) zero x = refl
const_of (suc n) (suc q) x = const_of n q x

eqb_other : (a b : ℕ) → a ≢ b → (a == b) ≡ false
eqb_other a b ne = elim (eqb_tells a b) [ inl same ↦ absurd (ne same.1) | inr other ↦ other.0 ]

-- the batches of another queue than the first are numbered from 1
first_of_other : (q : ℕ) → 0 ≢ q → first_number q ≡ 1
first_of_other q other = ap (λ t. if t then 0 else 1) (eqb_other q 0 (λ e. other (sym e)))

-- another queue than the first has no batch at first
no_batch : (w : World) (q : ℕ) → (0 == q) ≡ false → of_queue q (begun w).journal ≡ []
no_batch w q other = ap (λ t. cond t (startup w ∷ []) []) other

-- of no queue an operation is submitted
none_submitted : (w : World) (q : ℕ) → 0 ≡ submitted_of (begun w) q
none_submitted w q =
    elim (eqb_tells 0 q) [
      | inl same ↦ subst (λ k. 0 ≡ submitted_of (begun w) k) same.1 refl
      | inr other ↦ sym (ap (λ bs. number_after (first_number q) bs - 1) (no_batch w q other.0) ∙ ap (λ n. n - 1) (first_of_other q other.1))
    ]

-- the first queue's one batch is unfinished
one_batch : (w : World) → 0 < length w.queues → length (lane_of (begun w) 0).batches ≡ 1
one_batch w some =
    let lanes : List Lane = replicate (length w.queues) no_lane in
    let long : 0 < length lanes = omega (arith, length-replicate (length w.queues) no_lane, some) in
    ap (λ (l : Lane). length l.batches)
    (get_or_changed (lane_after_submit (startup w)) lanes 0 no_lane long ∙ ap (lane_after_submit (startup w)) (const_of (length w.queues) 0 no_lane))

-- of no queue a batch has finished
none_finished : (w : World) (q : ℕ) → 0 < length w.queues → 0 ≡ (first_number q + finished_of (begun w) q) - 1
none_finished w q some =
    let lanes : List Lane = replicate (length w.queues) no_lane in
    elim (eqb_tells 0 q) [
      | inl same ↦
          let one : length (lane_of (begun w) 0).batches ≡ 1 = one_batch w some in
          subst (λ k. 0 ≡ (first_number k + finished_of (begun w) k) - 1) same.1 (omega (arith, one))
      | inr other ↦
          let lane : lane_of (begun w) q ≡ no_lane =
          get_or_changed_other (lane_after_submit (startup w)) lanes 0 q no_lane other.1 ∙ const_of (length w.queues) q no_lane in
          let none : finished_of (begun w) q ≡ 0 =
          omega (arith, ap (λ (l : Lane). length l.batches) lane, ap (λ (bs : List Batch). length bs) (no_batch w q other.0)) in
          sym (ap (λ k. (first_number q + k) - 1) none ∙ ap (λ k. (k + 0) - 1) (first_of_other q other.1))
    ]

device_with : (w : World) → 0 < length w.queues → IsDevice w [] (begun w)
device_with w some =
    let plan : DevicePlan = plan_of_world w in
    let lanes : 0 < length (first_device plan).lanes = omega (arith, length-replicate (length w.queues) no_lane, some) in
    record {
      valid = submit_valid (first_device plan) (startup w) lanes refl (first_valid plan);
      objects = submit_matches plan (first_device plan) (startup w) (first_matches plan);
      stands = record {
        rest = [];
        begins = ap (λ bs. bs ++ []) (sym (opening_is w some));
        lowered_rest = tt;
        queues = λ q within. record { numbered = refl; of_called = omega arith; counter_is = const_of (length w.queues + 1) q 0; done = omega arith };
      };
      named = ap (λ t. t && true) (lt-ltb 0 (length w.queues) some);
      finished = λ q within. none_finished w q some;
      opening = λ less. absurd (omega (arith, less, one_batch w some));
      unopened = λ none. const_of (length w.queues + 1) (length w.queues) 0;
    }

device_without : (w : World) → length w.queues ≤ 0 → IsDevice w [] (first_device (plan_of_world w))
device_without w none = record {
  valid = first_valid (plan_of_world w);
  objects = first_matches (plan_of_world w);
  stands = record {
    rest = [];
    begins = ap (λ bs. bs ++ []) (sym (opening_none w none));
    lowered_rest = tt;
    queues = λ q within. absurd (omega (arith, within, none));
  };
  named = refl;
  finished = λ q within. absurd (omega (arith, within, none));
  opening = λ some. absurd (omega (arith, some));
  unopened = λ _. const_of (length w.queues + 1) (length w.queues) 0;
}

-- with a queue or without
opens : (P : VkState → Type 0) (w : World) → (0 < length w.queues → P (begun w)) → (length w.queues ≤ 0 → P (first_device (plan_of_world w))) → P (shown (opened w))
opens P w some none =
    subst P (sym (machine_open w).1)
    (elim (cases_lt 0 (length w.queues)) [
      | inl within ↦ subst (λ bs. P (after_submissions (first_device (plan_of_world w)) bs)) (sym (opening_is w within)) (some within)
      | inr past ↦ subst (λ bs. P (after_submissions (first_device (plan_of_world w)) bs)) (sym (opening_none w past)) (none past)
    ])

device_open : (w : World) → IsDevice w [] (shown (opened w))
device_open w = opens (λ v. IsDevice w [] v) w (λ some. device_with w some) (λ none. device_without w none)

const_at : {A : Type 0} (xs : List A) (q : ℕ) (x : Queued) → slice_get (map (λ _. no_queue) xs) q ≡ Some x → no_queue ≡ x
const_at [] q x is = absurd (cc)
const_at (y ∷ ys) zero x is = grind arith
const_at (y ∷ ys) (suc q) x is = const_at ys q x is

held_open : (w : World) → AreHeld w [] (shown (opened w)) (map (λ _. no_queue) w.queues)
held_open w = record {
  count = length-map w.queues (λ _. no_queue);
  each = λ q x at.
      let within : q < length w.queues = omega (arith, slice_get_within (map (λ _. no_queue) w.queues) q x at, length-map w.queues (λ _. no_queue)) in
      subst (λ y. IsHeld w [] (shown (opened w)) q y) (const_at w.queues q x at)
      (opens (λ v. IsHeld w [] v q no_queue) w
      (λ some. record { submitted_is = none_submitted w q; within = omega arith; rest = refl; last_is = refl; pending = refl })
      (λ none. absurd (omega (arith, within, none))));
}

-- before any call
pub consistent_open : (w : World) → IsWorld w →
    IsConsistent w [] (map (λ _. declared_list) w.lists) (map (λ _. opening_seat) w.scripts) (map (λ v. v ∷ []) w.fences) (map (λ _. no_queue) w.queues) (shown (opened w))
consistent_open w world = record {
  world = world;
  run = tt;
  past_is = record { lists_are = refl; places_are = places_open w.scripts; fences_are = refl };
  held_are = held_open w;
  device = device_open w;
}
