-- The machine of the device stays what a run of it can be.
use Rattle.std.proofs.Common.{ℕ, ◌≡◌, ◌<◌, ◌+◌, ◌∙◌, refl, sym, ap, subst, arith, List, [], ◌∷◌, length, map, Option, Some, None, true, inl, inr}
use Rattle.std.specs.Prelude.{nat_lt, ◌==◌, ◌&&◌}
use Rattle.std.proofs.lemmas.Bool.{cases_lt, eqb-true, lt-ltb}
use Rattle.std.proofs.lemmas.List.{length-replicate}
use Rattle.std.proofs.lemmas.Option.{slice_get_within}
use Rattle.dx_base.specs.Effects.{At}
use Rattle.dx_base.proofs.Lists.{and_both, and_of}
use Rattle.d3d_machine.specs.declared.world.World.{World}
use Rattle.d3d_machine.specs.declared.calls.Call.{Call}
use Rattle.d3d_machine.specs.declared.calls.Reply.{Reply}
use Rattle.d3d_machine.specs.declared.events.Listed.{Listed}
use Rattle.d3d_machine.specs.declared.events.Event.{Event}
use Rattle.d3d_machine.specs.Effects.{done}
use Rattle.vk_types.specs.declared.batches.Batch.{Batch}
use Rattle.vk_types.specs.declared.plan.PlanBuffer.{PlanBuffer}
use Rattle.vk_types.specs.declared.steps.VkStep.{VkStep}
use Rattle.vk_types.specs.declared.steps.VkStep.TheVariants as vk
use Rattle.vk_sync_rules.specs.declared.places.Place.{Place}
use Rattle.vk_sync_rules.specs.EnabledSteps.{is_enabled}
use Rattle.vk_sync_rules.specs.FirstState.{Begins}
use Rattle.vk_sync_rules.specs.Machines.{zeros_of_buffer}
use Rattle.vk_sync_rules.specs.Rules.{after_step as after_vk_step}
use Rattle.vk_sync_rules.specs.Runs.{Fits}
use Rattle.vk_sync_rules.specs.VkState.{VkState as Machine, first_state as first_machine, command_at}
use Rattle.vk_sync_rules.proofs.FirstState.{first_begins, devices_begin}
use Rattle.vk_port.specs.declared.steps.Stepped.{Stepped}
use Rattle.vk_port.specs.declared.steps.Stepped.TheVariants.{Passed, Ran, Bumped, Free}
use Rattle.vk_port.specs.After.{after_step, after_submit}
use Rattle.vk_port.specs.Journal.{of_queue, first_number, number_after, next_number, are_numbered, fits_plan}
use Rattle.vk_port.specs.Machine.{IsCounted, lanes_of, shown, vk_step, after_stepped}
use Rattle.vk_port.specs.Meaning.{IsEnabled}
use Rattle.vk_port.specs.VkState.{VkState, first_state, no_lane}
use Rattle.vk_port.proofs.Enabling.{offered_enabled}
use Rattle.vk_port.proofs.ReadNumbers.{stays_begun}
use Rattle.vk_port.proofs.Showing.{shows_submit}
use Rattle.vk_port.proofs.Shown.{first_shown, step_shown, submit_shown, host_write_shown, host_read_shown}
use Rattle.sys_core.specs.Lowering.{plan_buffers, plan_number, plan_of_world, startup}
use Rattle.sys_core.specs.Machine.{words_count, IsMachine}
use Rattle.sys_core.specs.Host.{after_store, after_load, after_call, told_words}
use Rattle.sys_core.specs.Steps.{after_submits}
use Rattle.sys_core.specs.Opened.{opened}
use Rattle.sys_core.specs.Consistent.{IsDevice}
use Rattle.sys_core.proofs.Startup.{opening_is, opening_none, opened_view, after_submissions}
use Rattle.vk_port.proofs.MachineSizes.{run_sized, run_plan, write_sized}
use Rattle.sys_core.proofs.MachineBatches.{end_fits, queues_many}

-- one step more of a run
begun_on : (m : Machine) (x : VkStep) → Begins m → is_enabled m x ≡ true → Fits m x → Begins (after_vk_step m x)
begun_on m x begins enabled fits = stays_begun m (x ∷ []) begins (enabled, fits, tt)

first_sizes : (bs : List PlanBuffer) → map length (map zeros_of_buffer bs) ≡ map words_count bs
first_sizes [] = refl
first_sizes (b ∷ bs) =
    let zero : Option ℕ = Some 0 in
    ap (λ (n : ℕ). n ∷ map length (map zeros_of_buffer bs)) (length-replicate b.words zero) ∙ ap (λ (ns : List ℕ). b.words ∷ ns) (first_sizes bs)

pub first_is : (w : World) → IsMachine w (first_machine (plan_of_world w))
first_is w = record {
  plan = refl;
  sizes = first_sizes (plan_buffers w.resources);
  begins = first_begins (first_machine (plan_of_world w)) (devices_begin (plan_of_world w));
  counted = (first_shown (plan_of_world w)).1;
}

number_is : (k : ℕ) (bs : List Batch) → are_numbered k bs ≡ true → number_after k bs ≡ k + length bs
number_is k [] numbered = omega arith
number_is k (b ∷ bs) numbered =
    let both : ((b.number == k) ≡ true) × (are_numbered (k + 1) bs ≡ true) = and_both (b.number == k) (are_numbered (k + 1) bs) numbered in
    ap (λ n. number_after (n + 1) bs) (eqb-true b.number k both.0) ∙ number_is (k + 1) bs both.1 ∙ omega arith

-- a submission of the next number is fit
pub submit_fits : (w : World) (m : Machine) (b : Batch) → IsMachine w m → b.queue < length (lanes_of m) → b.number ≡ next_number b.queue m.journal → Fits m (vk.Submit b)
submit_fits w m b is within number =
    let queue : b.queue < length m.queues = omega (arith, within, queues_many m) in (
      queue,
      number ∙ number_is (first_number b.queue) (of_queue b.queue m.journal) (is.counted.numbered b.queue) ∙ sym (is.counted.next b.queue queue),
    )

-- a submission of the next number, whose batch fits the plan
pub machine_submit : (w : World) (m : Machine) (b : Batch) → IsMachine w m → b.queue < length (lanes_of m) → b.number ≡ next_number b.queue m.journal →
    fits_plan (plan_of_world w) b ≡ true → IsMachine w (after_vk_step m (vk.Submit b))
machine_submit w m b is within number fits =
    let goes : Fits m (vk.Submit b) = submit_fits w m b is within number in
    record {
      plan = is.plan;
      sizes = is.sizes;
      begins = begun_on m (vk.Submit b) is.begins refl goes;
      counted = (submit_shown m is.counted b goes.0 number (subst (λ p. fits_plan p b ≡ true) (sym is.plan) fits)).1;
    }

-- what is shown of the machine after it
pub shown_submit : (w : World) (m : Machine) (b : Batch) → IsMachine w m → b.queue < length (lanes_of m) → b.number ≡ next_number b.queue m.journal →
    shown (after_vk_step m (vk.Submit b)) ≡ after_submit (shown m) b
shown_submit w m b is within number =
    let goes : Fits m (vk.Submit b) = submit_fits w m b is within number in
    shows_submit m is.counted b goes.0 goes.1

startup_fits : (w : World) → 0 < length w.queues → fits_plan (plan_of_world w) (startup w) ≡ true
startup_fits w some =
    and_of (nat_lt 0 (length w.queues)) (true && ((nat_lt (length w.queues) (length w.queues + 1) && true) && true)) (lt-ltb 0 (length w.queues) some)
    (and_of (nat_lt (length w.queues) (length w.queues + 1) && true) true
    (and_of (nat_lt (length w.queues) (length w.queues + 1)) true (lt-ltb (length w.queues) (length w.queues + 1) (omega arith)) refl) refl)

first_lanes_many : (w : World) → 0 < length w.queues → 0 < length (lanes_of (first_machine (plan_of_world w)))
first_lanes_many w some =
    omega (arith, ap (λ (v : VkState). length v.lanes) (first_shown (plan_of_world w)).0, length-replicate (length w.queues) no_lane, some)

-- the submission of the start-up batch is fit
pub startup_goes : (w : World) → 0 < length w.queues → Fits (first_machine (plan_of_world w)) (vk.Submit (startup w))
startup_goes w some =
    submit_fits w (first_machine (plan_of_world w)) (startup w) (first_is w) (first_lanes_many w some) refl

-- the machine before any call, and what is shown of it
pub machine_open : (w : World) → IsMachine w (opened w) × (shown (opened w) ≡ opened_view w)
machine_open w =
    let m : Machine = first_machine (plan_of_world w) in
    let first : shown m ≡ first_state (plan_of_world w) = (first_shown (plan_of_world w)).0 in
    elim (cases_lt 0 (length w.queues)) [
      | inl some ↦
          subst (λ bs. IsMachine w (after_submits m bs) × (shown (after_submits m bs) ≡ after_submissions (first_state (plan_of_world w)) bs)) (sym (opening_is w some))
          (machine_submit w m (startup w) (first_is w) (first_lanes_many w some) refl (startup_fits w some), shown_submit w m (startup w) (first_is w) (first_lanes_many w some) refl ∙ ap (λ v. after_submit v (startup w)) first)
      | inr none ↦
          subst (λ bs. IsMachine w (after_submits m bs) × (shown (after_submits m bs) ≡ after_submissions (first_state (plan_of_world w)) bs)) (sym (opening_none w none)) (first_is w, first)
    ]

-- a step of the machine that was named
named_step : (m : Machine) (x y : VkStep) → Some x ≡ Some y → is_enabled m y ≡ true → is_enabled m x ≡ true
named_step m x y same enabled = ap (is_enabled m) (let e : x ≡ y = grind arith in e) ∙ enabled

-- the step of the machine that a step of the device is can be taken, and is fit
pub step_enabled : (w : World) (m : Machine) (s : Stepped) → IsMachine w m → IsEnabled (shown m) s → (x : VkStep) × (vk_step s [] ≡ Some x) × (is_enabled m x ≡ true)
step_enabled w m s is enabled = offered_enabled m is.counted is.begins.ended s enabled

pub step_fits : (w : World) (h : List Event) (m : Machine) (s : Stepped) (x : VkStep) → IsDevice w h (shown m) → IsMachine w m → IsEnabled (shown m) s → vk_step s [] ≡ Some x → Fits m x
step_fits w h m (Passed q n) x device is enabled named = subst (Fits m) (let e : vk.Pass q n ≡ x = grind arith in e) tt
step_fits w h m (Ran q n k) x device is enabled named = subst (Fits m) (let e : vk.Command q n k [] ≡ x = grind arith in e) tt
step_fits w h m (Bumped q n) x device is enabled named =
    let within : q < length w.queues = omega (arith, slice_get_within (lanes_of m) q enabled.lane enabled.there, device.objects.lanes) in
    subst (Fits m) (let e : vk.Bump q n ≡ x = grind arith in e) (end_fits w h m q n device within enabled)
step_fits w h m Free x device is enabled named = absurd enabled

-- what a step leaves of plan and sizes
record StaysSized (w : World) (m : Machine) (s : Stepped) : Type 0 where
  plan : (after_stepped m s []).plan ≡ m.plan
  sizes : map length (after_stepped m s []).numbers.buffers ≡ map length m.numbers.buffers

step_sized : (w : World) (m : Machine) (s : Stepped) → IsCounted m → StaysSized w m s
step_sized w m (Passed q n) counted = record { plan = refl; sizes = refl }
step_sized w m (Ran q n k) counted =
    let here : Place = record { number = n; index = k } in
    record {
      plan = run_plan m q here [] (command_at m q here);
      sizes = run_sized m q here [] (command_at m q here);
    }
step_sized w m (Bumped q n) counted = record { plan = refl; sizes = refl }
step_sized w m Free counted = record { plan = refl; sizes = refl }

step_begun : (m : Machine) (s : Stepped) (x : VkStep) → Begins m → vk_step s [] ≡ Some x → is_enabled m x ≡ true → Fits m x → Begins (after_stepped m s [])
step_begun m (Passed q n) x begins named enabled fits = subst (λ y. Begins (after_vk_step m y)) (let e : x ≡ vk.Pass q n = grind arith in e) (begun_on m x begins enabled fits)
step_begun m (Ran q n k) x begins named enabled fits = subst (λ y. Begins (after_vk_step m y)) (let e : x ≡ vk.Command q n k [] = grind arith in e) (begun_on m x begins enabled fits)
step_begun m (Bumped q n) x begins named enabled fits = subst (λ y. Begins (after_vk_step m y)) (let e : x ≡ vk.Bump q n = grind arith in e) (begun_on m x begins enabled fits)
step_begun m Free x begins named enabled fits = absurd (cc)

-- a step of the device
pub machine_step : (w : World) (h : List Event) (m : Machine) (s : Stepped) → IsDevice w h (shown m) → IsMachine w m → IsEnabled (shown m) s → IsMachine w (after_stepped m s [])
machine_step w h m s device is enabled =
    let step : (x : VkStep) × (vk_step s [] ≡ Some x) × (is_enabled m x ≡ true) = step_enabled w m s is enabled in
    let fits : Fits m step.0 = step_fits w h m s step.0 device is enabled step.1 in
    let sized : StaysSized w m s = step_sized w m s is.counted in
    record {
      plan = sized.plan ∙ is.plan;
      sizes = sized.sizes ∙ is.sizes;
      begins = step_begun m s step.0 is.begins step.1 step.2 fits;
      counted = (step_shown m is.counted s enabled).1;
    }

-- what is shown of the machine after it
pub shown_step : (w : World) (m : Machine) (s : Stepped) → IsMachine w m → IsEnabled (shown m) s → shown (after_stepped m s []) ≡ after_step (shown m) s
shown_step w m s is enabled = (step_shown m is.counted s enabled).0

pub machine_store : (w : World) (m : Machine) (o : Option (At (ℕ × List ℕ))) → IsMachine w m → IsMachine w (after_store w m o)
machine_store w m None is = is
machine_store w m (Some x) is =
    let b : ℕ = plan_number w x.place in
    record {
      plan = is.plan;
      sizes = write_sized m b x.what.0 x.what.1 ∙ is.sizes;
      begins = begun_on m (vk.HostWrite b x.what.0 x.what.1) is.begins refl tt;
      counted = (host_write_shown m is.counted b x.what.0 x.what.1).1;
    }

machine_load : (w : World) (m : Machine) (o : Option (At (ℕ × ℕ))) (r : Reply) → IsMachine w m → IsMachine w (after_load w m o r)
machine_load w m None r is = is
machine_load w m (Some x) r is =
    let b : ℕ = plan_number w x.place in
    record {
      plan = is.plan;
      sizes = is.sizes;
      begins = begun_on m (vk.HostRead b x.what.0 (told_words r)) is.begins refl tt;
      counted = (host_read_shown m is.counted b x.what.0 (told_words r)).1;
    }

-- a call that is served
pub machine_call : (w : World) (lists : List Listed) (m : Machine) (c : Call) (r : Reply) → IsMachine w m → IsMachine w (after_call w lists m c r)
machine_call w lists m c r is = machine_load w (after_store w m (done w lists c).stores) (done w lists c).reads r (machine_store w m (done w lists c).stores is)

store_shown : (w : World) (m : Machine) (o : Option (At (ℕ × List ℕ))) → shown (after_store w m o) ≡ shown m
store_shown w m None = refl
store_shown w m (Some x) = refl

load_shown : (w : World) (m : Machine) (o : Option (At (ℕ × ℕ))) (r : Reply) → shown (after_load w m o r) ≡ shown m
load_shown w m None r = refl
load_shown w m (Some x) r = refl

-- a call changes nothing that each queue has yet to do
pub call_shown : (w : World) (lists : List Listed) (m : Machine) (c : Call) (r : Reply) → shown (after_call w lists m c r) ≡ shown m
call_shown w lists m c r = load_shown w (after_store w m (done w lists c).stores) (done w lists c).reads r ∙ store_shown w m (done w lists c).stores
