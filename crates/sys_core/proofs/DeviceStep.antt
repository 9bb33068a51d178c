-- What a step of the device needs, and what it leaves.
use Rattle.std.proofs.Common.{ℕ, zero, suc, ◌≡◌, ◌<◌, ◌≤◌, ◌∙◌, sym, ap, subst, refl, arith, List, [], ◌∷◌, ◌++◌, length, map, Some, Option, get_or, ◌⊎◌, inl, inr, slice_set, IsSome}
use Rattle.std.proofs.lemmas.List.{length-map}
use Rattle.std.proofs.lemmas.Option.{slice_get_within, slice_get-map}
use Rattle.std.proofs.lemmas.Bool.Decides.{leb_tells}
use Rattle.std.specs.List.{slice_get}
use Rattle.std.specs.Option.{option_map}
use Rattle.dx_base.specs.Lists.{changed_at}
use Rattle.dx_base.specs.Roomy.{Roomy}
use Rattle.dx_base.proofs.Lists.{map_write}
use Rattle.sys_core.specs.declared.parts.Signalled.{Signalled}
use Rattle.sys_core.proofs.WorkerStep.{held_at}
use Rattle.d3d_machine.specs.declared.world.World.{World}
use Rattle.d3d_machine.specs.declared.events.Event.{Event}
use Rattle.d3d_machine.specs.declared.events.Event.TheVariants as event
use Rattle.vk_port.specs.declared.steps.Stepped.{Stepped}
use Rattle.vk_port.specs.declared.steps.Stepped.TheVariants.{Passed, Ran, Bumped, Free}
use Rattle.vk_port.specs.Enabled.{enabled_steps}
use Rattle.vk_port.specs.Meaning.{IsEnabled}
use Rattle.vk_sync_rules.specs.VkState.{VkState as Machine}
use Rattle.vk_port.specs.DeviceView.{DeviceView}
use Rattle.vk_port.specs.VkState.{VkState}
use Rattle.vk_port.specs.After.{after_step}
use Rattle.vk_port.specs.Machine.{shown, after_stepped}
use Rattle.vk_port.proofs.Enabled.{enabled_means}
use Rattle.sys_core.specs.declared.parts.Held.{Held}
use Rattle.sys_core.specs.declared.parts.Parts.{Parts}
use Rattle.sys_core.specs.Parts.{Queued, queued, updates_in, first_signal, signal_at, without, updated_by, HasRoomFor, HasRoomForEach}
use Rattle.sys_core.specs.Consistent.{IsConsistent}
use Rattle.sys_core.specs.Lowering.{AreNumbers}
use Rattle.sys_core.specs.Keeps.{Keeps}
use Rattle.sys_core.specs.Machine.{IsMachine}
use Rattle.sys_core.proofs.MachineSteps.{machine_step, shown_step}
use Rattle.sys_core.specs.WaitSearches.{AreSearched}
use Rattle.sys_core.proofs.Keeping.{has_plan}
use Rattle.sys_core.proofs.WaitSearches.{searched_signal}
use Rattle.sys_core.proofs.Updates.{room_numbered}
use Rattle.sys_core.proofs.Bumping.{consistent_pass, consistent_run, consistent_start, consistent_end}

-- the step that was answered is one that can be taken, or free
pub step_means : (v : VkState) (k : ℕ) (s : Stepped) → (k < length (enabled_steps v) → slice_get (enabled_steps v) k ≡ Some s) →
    (length (enabled_steps v) ≤ k → s ≡ Free) → IsEnabled v s ⊎ (s ≡ Free)
step_means v k s named free =
    elim (leb_tells (length (enabled_steps v)) k) [
      | inl past ↦ inr (free past.1)
      | inr within ↦ inl (enabled_means v k s (named within.1))
    ]

-- the same, of what a step is
pub means_of : (v : VkState) (k : ℕ) (s t : Stepped) → s ≡ t → (k < length (enabled_steps v) → slice_get (enabled_steps v) k ≡ Some s) →
    (length (enabled_steps v) ≤ k → s ≡ Free) → IsEnabled v t ⊎ (t ≡ Free)
means_of v k s t is named free = subst (λ x. IsEnabled v x ⊎ (x ≡ Free)) is (step_means v k s named free)

-- the parts look as before: lists, places, updates and held operations are the same but for room
pub record Seems (p r : Parts) : Type 0 where
  pub lists : r.lists ≡ p.lists
  pub seats : r.seats ≡ p.seats
  pub fences : map updates_in r.fences ≡ map updates_in p.fences
  pub held : map queued r.held ≡ map queued p.held
  pub numbers : r.numbers ≡ p.numbers

moved : (w : World) (h : List Event) (p r : Parts) (v : VkState) → Seems p r → IsConsistent w h p.lists p.seats (map updates_in p.fences) (map queued p.held) v →
    IsConsistent w h r.lists r.seats (map updates_in r.fences) (map queued r.held) v
moved w h p r v seems is =
    subst (λ x. IsConsistent w h r.lists r.seats (map updates_in r.fences) x v) (sym seems.held)
    (subst (λ x. IsConsistent w h r.lists r.seats x (map queued p.held) v) (sym seems.fences)
    (subst (λ x. IsConsistent w h r.lists x (map updates_in p.fences) (map queued p.held) v) (sym seems.seats)
    (subst (λ x. IsConsistent w h x p.seats (map updates_in p.fences) (map queued p.held) v) (sym seems.lists) is)))

by_cases : (n : ℕ) → (n ≡ 0 → ⊥) → 0 < n
by_cases zero h = absurd (h refl)
by_cases (suc n) h = omega arith

module _ (w : World) (h : List Event) (p : Parts) (d : DeviceView) (keeps : Keeps w h p d) where
  -- the step ended no operation's batch
  pub keeps_goes : (r : Parts) (e : DeviceView) (m : Machine) → Seems p r → IsConsistent w h p.lists p.seats (map updates_in p.fences) (map queued p.held) (shown m) → IsMachine w m →
      e.state ≡ m → (IsSome d.plan → e.plan ≡ d.plan) → Keeps w h r e
  keeps_goes r e m seems is now after plan = record {
    consistent = subst (λ x. IsConsistent w h r.lists r.seats (map updates_in r.fences) (map queued r.held) (shown x)) (sym after) (moved w h p r (shown m) seems is);
    machine_is = subst (IsMachine w) (sym after) now;
    plan = plan (has_plan w h p d keeps) ∙ keeps.plan;
    numbers = subst (AreNumbers w.resources) (sym seems.numbers) keeps.numbers;
    searched = subst (λ us. AreSearched us r.seats) (sym seems.fences) (subst (AreSearched (map updates_in p.fences)) (sym seems.seats) keeps.searched);
  }

  -- what the parts are after a step, as the device shows it
  stepped_is : (k : List Event) (fences : List (List ℕ)) (held : List Queued) (s : Stepped) → IsEnabled (shown d.state) s → IsConsistent w k p.lists p.seats fences held (after_step (shown d.state) s) →
      IsConsistent w k p.lists p.seats fences held (shown (after_stepped d.state s []))
  stepped_is k fences held s enabled is = subst (λ v. IsConsistent w k p.lists p.seats fences held v) (sym (shown_step w d.state s keeps.machine_is enabled)) is

  -- a pass, or a command
  pub keeps_pass : (r : Parts) (e : DeviceView) (q n : ℕ) → Seems p r → (IsEnabled (shown d.state) (Passed q n) ⊎ (Passed q n ≡ Free)) →
      e.state ≡ after_stepped d.state (Passed q n) [] → (IsSome d.plan → e.plan ≡ d.plan) → Keeps w h r e
  keeps_pass r e q n seems means after plan =
      elim means [
        | inl enabled ↦ keeps_goes r e (after_stepped d.state (Passed q n) []) seems
            (stepped_is h (map updates_in p.fences) (map queued p.held) (Passed q n) enabled
            (consistent_pass w h p.lists p.seats (map updates_in p.fences) (map queued p.held) (shown d.state) q n keeps.consistent enabled))
            (machine_step w h d.state (Passed q n) keeps.consistent.device keeps.machine_is enabled) after plan
        | inr free ↦ absurd (cc)
      ]

  pub keeps_ran : (r : Parts) (e : DeviceView) (q n k : ℕ) → Seems p r → (IsEnabled (shown d.state) (Ran q n k) ⊎ (Ran q n k ≡ Free)) →
      e.state ≡ after_stepped d.state (Ran q n k) [] → (IsSome d.plan → e.plan ≡ d.plan) → Keeps w h r e
  keeps_ran r e q n k seems means after plan =
      elim means [
        | inl enabled ↦ keeps_goes r e (after_stepped d.state (Ran q n k) []) seems
            (stepped_is h (map updates_in p.fences) (map queued p.held) (Ran q n k) enabled
            (consistent_run w h p.lists p.seats (map updates_in p.fences) (map queued p.held) (shown d.state) q n k keeps.consistent enabled))
            (machine_step w h d.state (Ran q n k) keeps.consistent.device keeps.machine_is enabled) after plan
        | inr free ↦ absurd (cc)
      ]

  -- a batch that can end is of a queue of the world
  pub bump_queue : (q n : ℕ) → (IsEnabled (shown d.state) (Bumped q n) ⊎ (Bumped q n ≡ Free)) → (q < length w.queues) × IsEnabled (shown d.state) (Bumped q n)
  bump_queue q n means =
      elim means [
        | inl enabled ↦ (omega (arith, slice_get_within (shown d.state).lanes q enabled.lane enabled.there, keeps.consistent.device.objects.lanes), enabled)
        | inr free ↦ absurd (cc)
      ]

  pub held_some : (q n : ℕ) → (IsEnabled (shown d.state) (Bumped q n) ⊎ (Bumped q n ≡ Free)) → q < length p.held
  held_some q n means = omega (arith, length-map p.held queued, keeps.consistent.held_are.count, (bump_queue q n means).0)

  -- the end of the start-up batch
  pub keeps_start : (r : Parts) (e : DeviceView) (q n : ℕ) → Seems p r → (IsEnabled (shown d.state) (Bumped q n) ⊎ (Bumped q n ≡ Free)) → n ≡ 0 →
      e.state ≡ after_stepped d.state (Bumped q n) [] → (IsSome d.plan → e.plan ≡ d.plan) → Keeps w h r e
  keeps_start r e q n seems means zeroth after plan =
      let bump : (q < length w.queues) × IsEnabled (shown d.state) (Bumped q n) = bump_queue q n means in
      let enabled : IsEnabled (shown d.state) (Bumped q 0) = subst (λ k. IsEnabled (shown d.state) (Bumped q k)) zeroth bump.1 in
      keeps_goes r e (after_stepped d.state (Bumped q 0) []) seems
      (stepped_is h (map updates_in p.fences) (map queued p.held) (Bumped q 0) enabled
      (consistent_start w h p.lists p.seats (map updates_in p.fences) (map queued p.held) (shown d.state) q keeps.consistent bump.0 enabled))
      (machine_step w h d.state (Bumped q 0) keeps.consistent.device keeps.machine_is enabled)
      (after ∙ ap (λ k. after_stepped d.state (Bumped q k) []) zeroth) plan

  -- the end of an operation's batch
  pub keeps_end : (r : Parts) (e : DeviceView) (q n : ℕ) (y : Held) → (IsEnabled (shown d.state) (Bumped q n) ⊎ (Bumped q n ≡ Free)) → 0 < n → slice_get p.held q ≡ Some y →
      r.lists ≡ p.lists → r.seats ≡ p.seats → r.numbers ≡ p.numbers → map updates_in r.fences ≡ updated_by (signal_at n (queued y)) (map updates_in p.fences) →
      map queued r.held ≡ changed_at (without (signal_at n (queued y))) q (map queued p.held) →
      e.state ≡ after_stepped d.state (Bumped q n) [] → (IsSome d.plan → e.plan ≡ d.plan) →
      Keeps w (h ++ event.Queue (record { 0 = q }) ∷ []) r e
  keeps_end r e q n y means some at lists seats numbers fences held after plan =
      let bump : (q < length w.queues) × IsEnabled (shown d.state) (Bumped q n) = bump_queue q n means in
      let k : List Event = h ++ event.Queue (record { 0 = q }) ∷ [] in
      let v : VkState = shown (after_stepped d.state (Bumped q n) []) in
      let fences_now : List (List ℕ) = updated_by (signal_at n (queued y)) (map updates_in p.fences) in
      let held_now : List Queued = changed_at (without (signal_at n (queued y))) q (map queued p.held) in
      let is : IsConsistent w k p.lists p.seats fences_now held_now v =
      stepped_is k fences_now held_now (Bumped q n) bump.1
      (consistent_end w h p.lists p.seats (map updates_in p.fences) (map queued p.held) (shown d.state) (record { 0 = q }) n (queued y) keeps.consistent bump.0 some bump.1
      (slice_get-map queued p.held q ∙ ap (option_map queued) at)) in
      record {
        consistent =
            subst (λ x. IsConsistent w k r.lists r.seats (map updates_in r.fences) (map queued r.held) (shown x)) (sym after)
            (subst (λ x. IsConsistent w k r.lists r.seats (map updates_in r.fences) x v) (sym held)
            (subst (λ x. IsConsistent w k r.lists r.seats x held_now v) (sym fences)
            (subst (λ x. IsConsistent w k r.lists x fences_now held_now v) (sym seats)
            (subst (λ x. IsConsistent w k x p.seats fences_now held_now v) (sym lists) is))));
        machine_is = subst (IsMachine w) (sym after) (machine_step w h d.state (Bumped q n) keeps.consistent.device keeps.machine_is bump.1);
        plan = plan (has_plan w h p d keeps) ∙ keeps.plan;
        numbers = subst (AreNumbers w.resources) (sym numbers) keeps.numbers;
        searched =
            subst (λ us. AreSearched us r.seats) (sym fences)
            (subst (AreSearched fences_now) (sym seats) (searched_signal (map updates_in p.fences) (signal_at n (queued y)) p.seats keeps.searched));
      }

  -- there is room for the signal of the operation whose batch ends
  pub room_end : (q n : ℕ) (y : Held) (fences : List (Roomy ℕ)) → (IsEnabled (shown d.state) (Bumped q n) ⊎ (Bumped q n ≡ Free)) → y ≡ get_or p.held q y →
      HasRoomForEach p.held fences → HasRoomFor (signal_at n (queued y)) fences
  room_end q n y fences means at room =
      room_numbered n (first_signal (queued y)) fences (room.each q y (held_at w h p d keeps q y (bump_queue q n means).0 at))

  -- the end of an operation's batch, as the step's parts give it
  pub keeps_end_by : (fences : List (Roomy ℕ)) (e : DeviceView) (q n : ℕ) (y z : Held) (o : Option Signalled) → (IsEnabled (shown d.state) (Bumped q n) ⊎ (Bumped q n ≡ Free)) → (n ≡ 0 → ⊥) → y ≡ get_or p.held q y →
      o ≡ signal_at n (queued y) → queued z ≡ without o (queued y) → map updates_in fences ≡ updated_by o (map updates_in p.fences) →
      e.state ≡ after_stepped d.state (Bumped q n) [] → (IsSome d.plan → e.plan ≡ d.plan) →
      Keeps w (h ++ event.Queue (record { 0 = q }) ∷ []) (record { lists = p.lists; seats = p.seats; fences = fences; held = slice_set p.held q z; numbers = p.numbers }) e
  keeps_end_by fences e q n y z o means later at signal rest updates after plan =
      let found : slice_get p.held q ≡ Some y = held_at w h p d keeps q y (bump_queue q n means).0 at in
      keeps_end (record { lists = p.lists; seats = p.seats; fences = fences; held = slice_set p.held q z; numbers = p.numbers }) e q n y means (by_cases n later) found refl refl refl
      (updates ∙ ap (λ x. updated_by x (map updates_in p.fences)) signal)
      (map_write queued (without (signal_at n (queued y))) p.held q y z (held_some q n means) at (rest ∙ ap (λ x. without x (queued y)) signal))
      after plan
