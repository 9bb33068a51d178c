-- All is finished exactly where the system's parts say so.
use Rattle.std.proofs.Common.{ℕ, zero, suc, ◌≡◌, ◌<◌, ◌≤◌, ◌+◌, ◌-◌, ◌∙◌, sym, ap, subst, refl, arith, List, [], ◌∷◌, length, map, drop, Some, None, Option, Bool, true, false, inl, inr, slice_get}
use Rattle.std.proofs.lemmas.Bool.{and_parts, eqb-true, cases_lt}
use Rattle.std.proofs.lemmas.Bool.Decides.{eqb_tells}
use Rattle.std.proofs.lemmas.List.{length-drop}
use Rattle.std.proofs.lemmas.Option.{slice_get-map}
use Rattle.std.specs.Option.{option_map}
use Rattle.std.specs.Prelude.{◌==◌, ◌&&◌}
use Rattle.dx_base.specs.declared.kinds.ListType.{ListType}
use Rattle.d3d_machine.specs.declared.world.World.{World}
use Rattle.d3d_machine.specs.declared.events.Event.{Event}
use Rattle.d3d_machine.specs.declared.events.Operation.{Operation}
use Rattle.d3d_machine.specs.State.{Place, Desk, place_of, called_of, script_of, opening_place}
use Rattle.d3d_machine.specs.Play.{SameButWords, IsFinished, state_after}
use Rattle.d3d_machine.specs.Operations.{operations, counter}
use Rattle.d3d_machine.proofs.Operations.{HoldsRest, called_after}
use Rattle.d3d_machine.proofs.Shape.{run_has_shape}
use Rattle.vk_port.specs.Journal.{of_queue}
use Rattle.vk_port.specs.DeviceView.{DeviceView}
use Rattle.vk_port.specs.Machine.{shown}
use Rattle.vk_port.specs.VkState.{counter_of}
use Rattle.vk_port.proofs.Lists.{item_at}
use Rattle.sys_core.specs.declared.parts.Armed.{Armed}
use Rattle.sys_core.specs.declared.parts.Held.{Held}
use Rattle.sys_core.specs.declared.parts.Parts.{Parts}
use Rattle.sys_core.specs.declared.parts.Seat.{Seat}
use Rattle.sys_core.specs.Consistent.{IsHeld}
use Rattle.sys_core.specs.Finished.{has_ended_by, has_ended_at, is_empty_at, all_from}
use Rattle.sys_core.specs.Keeps.{Keeps}
use Rattle.d3d_machine.specs.Past.{place_from}
use Rattle.sys_core.specs.Parts.{queued, updates_in, place_since}
use Rattle.sys_core.specs.Stands.{StandsAt}
use Rattle.sys_core.specs.Steps.{submitted_of}
use Rattle.sys_core.proofs.Ahead.{drop_past}
use Rattle.sys_core.proofs.Keeping.{place_is}
use Rattle.sys_core.proofs.Standing.{submitted_is}
use Rattle.sys_core.proofs.Startup.{begins_of}
use Rattle.sys_core.proofs.NthStep as nth

-- a test of all numbers is one of each
pub all_of : (test : ℕ → Bool) (n k t : ℕ) → all_from test n k ≡ true → n ≤ t → t < n + k → test t ≡ true
all_of test n zero t all from below = absurd (omega (arith, from, below))
all_of test n (suc k) t all from below =
    let both : (test n ≡ true) × (all_from test (n + 1) k ≡ true) = and_parts (test n) (all_from test (n + 1) k) all in
    elim (eqb_tells n t) [
      | inl same ↦ subst (λ m. test m ≡ true) same.1 both.0
      | inr other ↦ all_of test (n + 1) k t both.1 (omega (arith, from, other.1)) (omega (arith, below))
    ]

pub all_if : (test : ℕ → Bool) (n k : ℕ) → ((t : ℕ) → n ≤ t → t < n + k → test t ≡ true) → all_from test n k ≡ true
all_if test n zero each = refl
all_if test n (suc k) each =
    ap (λ b. b && all_from test (n + 1) k) (each n (omega arith) (omega arith))
    ∙ all_if test (n + 1) k (λ t from below. each t (omega (arith, from)) (omega (arith, below)))

-- a turn of a search: the number that was looked at passes, or does not
pub all_on : (test : ℕ → Bool) (n a : ℕ) → a < n → test a ≡ true → all_from test 0 n ≡ all_from test a (n - a) → all_from test 0 n ≡ all_from test (a + 1) (n - (a + 1))
all_on test n a less passes is =
    let left : n - a ≡ suc (n - (a + 1)) = omega (arith, less) in
    is ∙ ap (λ k. all_from test a k) left ∙ ap (λ b. b && all_from test (a + 1) (n - (a + 1))) passes

pub all_stops : (test : ℕ → Bool) (n a : ℕ) → a < n → test a ≡ false → all_from test 0 n ≡ all_from test a (n - a) → false ≡ all_from test 0 n
all_stops test n a less fails is =
    let left : n - a ≡ suc (n - (a + 1)) = omega (arith, less) in
    sym (is ∙ ap (λ k. all_from test a k) left ∙ ap (λ b. b && all_from test (a + 1) (n - (a + 1))) fails)

record IsEndedPlace (calls : ℕ) (p : Place) : Type 0 where
  made : p.made ≡ calls
  waits : p.waits ≡ None

ended_place : (us : List (List ℕ)) (calls made : ℕ) (o : Option Armed) → has_ended_by calls (record { made = made; waits = o }) ≡ true →
    IsEndedPlace calls (place_from us (place_since (record { made = made; waits = o })))
ended_place us calls made None ended = record { made = eqb-true made calls ended; waits = refl }
ended_place us calls made (Some a) ended = absurd (cc)

place_ended : (us : List (List ℕ)) (calls made : ℕ) (o : Option Armed) → (place_from us (place_since (record { made = made; waits = o }))).made ≡ calls →
    (place_from us (place_since (record { made = made; waits = o }))).waits ≡ None → has_ended_by calls (record { made = made; waits = o }) ≡ true
place_ended us calls made None same none = elim (eqb_tells made calls) [
  | inl is ↦ is.0
  | inr other ↦ absurd (omega (arith, same, other.1))
]
place_ended us calls made (Some a) same none = absurd (cc)

nothing_past : {A : Type 0} (xs : List A) (t : ℕ) → length xs ≤ t → slice_get xs t ≡ None
nothing_past [] t past = refl
nothing_past (x ∷ xs) zero past = absurd (omega (arith, past))
nothing_past (x ∷ xs) (suc t) past = nothing_past xs t (omega (arith, past))

equal_tests : (a b : ℕ) → a ≡ b → (a == b) ≡ true
equal_tests a b same = elim (eqb_tells a b) [
  | inl is ↦ is.0
  | inr other ↦ absurd (omega (arith, same, other.1))
]

module _ (w : World) (h : List Event) (p : Parts) (d : DeviceView) (keeps : Keeps w h p d) where
  abbrev desk : Desk
  desk = (state_after w h).desk

  -- a thread that the world does not have has ended
  past_ended : (t : ℕ) → length w.scripts ≤ t → IsEndedPlace (length (script_of w t)) (place_of desk t)
  past_ended t past =
      let none : slice_get desk.threads t ≡ None = nothing_past desk.threads t (omega (arith, past, (run_has_shape w h).desk.threads)) in
      let place : place_of desk t ≡ opening_place = ap (λ (o : Option Place). elim o [ None ↦ opening_place | Some x ↦ x ]) none in
      let script : script_of w t ≡ [] = ap (λ (o : Option (List _)). elim o [ None ↦ [] | Some x ↦ x ]) (nothing_past w.scripts t past) in
      record { made = ap (λ (x : Place). x.made) place ∙ sym (ap length script); waits = ap (λ (x : Place). x.waits) place }

  seat_at : (t : ℕ) → t < length w.scripts → (s : Seat) × (slice_get p.seats t ≡ Some s)
  seat_at t within = item_at p.seats t (omega (arith, within, nth.seats_count w h p d keeps))

  thread_ended : (t : ℕ) → t < length w.scripts → has_ended_at w p.seats t ≡ true → IsEndedPlace (length (script_of w t)) (place_of desk t)
  thread_ended t within ended =
      let found : (s : Seat) × (slice_get p.seats t ≡ Some s) = seat_at t within in
      let by : has_ended_by (length (script_of w t)) found.0 ≡ true =
      sym (ap (λ (o : Option Seat). elim o [ None ↦ false | Some s ↦ has_ended_by (length (script_of w t)) s ]) found.1) ∙ ended in
      subst (IsEndedPlace (length (script_of w t))) (sym (place_is w h p (shown d.state) t found.0 keeps.consistent found.1))
      (ended_place (map updates_in p.fences) (length (script_of w t)) found.0.made found.0.waits by)

  ended_thread : (t : ℕ) → t < length w.scripts → IsFinished w desk → has_ended_at w p.seats t ≡ true
  ended_thread t within finished =
      let found : (s : Seat) × (slice_get p.seats t ≡ Some s) = seat_at t within in
      let place : place_of desk t ≡ place_from (map updates_in p.fences) (place_since found.0) = place_is w h p (shown d.state) t found.0 keeps.consistent found.1 in
      ap (λ (o : Option Seat). elim o [ None ↦ false | Some s ↦ has_ended_by (length (script_of w t)) s ]) found.1
      ∙ place_ended (map updates_in p.fences) (length (script_of w t)) found.0.made found.0.waits
      (sym (ap (λ (x : Place). x.made) place) ∙ finished.scripts t) (sym (ap (λ (x : Place). x.waits) place) ∙ finished.waits t)

  -- what a queue of the world has, and what of it the system holds
  record IsQueueHeld (q : ℕ) : Type 0 where
    held : Held
    at : slice_get p.held q ≡ Some held
    is : IsHeld w h (shown d.state) q (queued held)
    called : called_of desk q ≡ drop (counter h q) (operations w h q)
    reached : counter_of (shown d.state) q ≡ counter h q
    behind : counter h q ≤ held.submitted

  queue_held : (q : ℕ) → q < length w.queues → IsQueueHeld q
  queue_held q within =
      let found : (x : Held) × (slice_get p.held q ≡ Some x) = item_at p.held q (omega (arith, within, nth.held_count w h p d keeps)) in
      let is : IsHeld w h (shown d.state) q (queued found.0) =
      keeps.consistent.held_are.each q (queued found.0) (slice_get-map queued p.held q ∙ ap (option_map queued) found.1) in
      let type : (x : ListType) × (slice_get w.queues q ≡ Some x) = item_at w.queues q within in
      let holds : HoldsRest desk q (counter h q) (operations w h q) = called_after SameButWords w q h type.0 type.1 keeps.consistent.run in
      let stands : StandsAt w h keeps.consistent.device.stands.rest (shown d.state) q = keeps.consistent.device.stands.queues q within in
      let count : submitted_of (shown d.state) q ≡ length (of_queue q keeps.consistent.device.stands.rest) =
      submitted_is w (shown d.state) keeps.consistent.device.stands.rest q (begins_of w h (shown d.state) keeps.consistent.device.stands (omega (arith, within))) stands.numbered in
      record {
        held = found.0;
        at = found.1;
        is = is;
        called = ap (λ (o : Option (List Operation)). elim o [ None ↦ [] | Some x ↦ x ]) holds.rest;
        reached = stands.counter_is;
        behind = omega (arith, stands.done, count, is.submitted_is);
      }

  queue_empty : (q : ℕ) → q < length w.queues → is_empty_at p.held (shown d.state) q ≡ true → called_of desk q ≡ []
  queue_empty q within empty =
      let on : IsQueueHeld q = queue_held q within in
      let os : List Operation = operations w h q in
      let by : ((length on.held.operations.items == 0) && (counter_of (shown d.state) q == on.held.submitted)) ≡ true =
      sym (ap (λ (o : Option Held). elim o [ None ↦ false | Some x ↦ (length x.operations.items == 0) && (counter_of (shown d.state) q == x.submitted) ]) on.at) ∙ empty in
      let both : ((length on.held.operations.items == 0) ≡ true) × ((counter_of (shown d.state) q == on.held.submitted) ≡ true) =
      and_parts (length on.held.operations.items == 0) (counter_of (shown d.state) q == on.held.submitted) by in
      let none : length on.held.operations.items ≡ 0 = eqb-true (length on.held.operations.items) 0 both.0 in
      let through : counter_of (shown d.state) q ≡ on.held.submitted = eqb-true (counter_of (shown d.state) q) on.held.submitted both.1 in
      let left : length on.held.operations.items ≡ length os - on.held.submitted = ap length on.is.rest ∙ length-drop on.held.submitted os in
      on.called ∙ drop_past (counter h q) os (omega (arith, none, through, left, on.reached))

  empty_queue : (q : ℕ) → q < length w.queues → IsFinished w desk → is_empty_at p.held (shown d.state) q ≡ true
  empty_queue q within finished =
      let on : IsQueueHeld q = queue_held q within in
      let os : List Operation = operations w h q in
      let all : length os - counter h q ≡ 0 = sym (length-drop (counter h q) os) ∙ ap length (sym on.called ∙ finished.queues q) in
      let left : length on.held.operations.items ≡ length os - on.held.submitted = ap length on.is.rest ∙ length-drop on.held.submitted os in
      let inside : on.held.submitted ≤ length os = on.is.within in
      ap (λ (o : Option Held). elim o [ None ↦ false | Some x ↦ (length x.operations.items == 0) && (counter_of (shown d.state) q == x.submitted) ]) on.at
      ∙ ap (λ b. b && (counter_of (shown d.state) q == on.held.submitted)) (equal_tests (length on.held.operations.items) 0 (omega (arith, all, left, on.behind)))
      ∙ equal_tests (counter_of (shown d.state) q) on.held.submitted (omega (arith, all, on.reached, on.behind, inside))

  past_empty : (q : ℕ) → length w.queues ≤ q → called_of desk q ≡ []
  past_empty q past =
      ap (λ (o : Option (List Operation)). elim o [ None ↦ [] | Some x ↦ x ])
      (nothing_past desk.called q (omega (arith, past, (run_has_shape w h).desk.called)))

  pub finished_if : all_from (has_ended_at w p.seats) 0 (length w.scripts) ≡ true → all_from (is_empty_at p.held (shown d.state)) 0 (length p.held) ≡ true → IsFinished w desk
  finished_if threads queues =
      let ended : (t : ℕ) → IsEndedPlace (length (script_of w t)) (place_of desk t) =
      λ t. elim (cases_lt t (length w.scripts)) [
        | inl within ↦ thread_ended t within (all_of (has_ended_at w p.seats) 0 (length w.scripts) t threads (omega arith) (omega (arith, within)))
        | inr past ↦ past_ended t (omega (arith, past))
      ] in
      record {
        scripts = λ t. (ended t).made;
        waits = λ t. (ended t).waits;
        queues = λ q. elim (cases_lt q (length w.queues)) [
          | inl within ↦
              queue_empty q within (all_of (is_empty_at p.held (shown d.state)) 0 (length p.held) q queues (omega arith) (omega (arith, within, nth.held_count w h p d keeps)))
          | inr past ↦ past_empty q (omega (arith, past))
        ];
      }

  pub threads_if : IsFinished w desk → all_from (has_ended_at w p.seats) 0 (length w.scripts) ≡ true
  threads_if finished = all_if (has_ended_at w p.seats) 0 (length w.scripts) (λ t from below. ended_thread t (omega (arith, below)) finished)

  pub queues_if : IsFinished w desk → all_from (is_empty_at p.held (shown d.state)) 0 (length p.held) ≡ true
  queues_if finished =
      all_if (is_empty_at p.held (shown d.state)) 0 (length p.held)
      (λ q from below. empty_queue q (omega (arith, below, nth.held_count w h p d keeps)) finished)

  -- each queue has a timeline
  pub timelines_many : length p.held ≤ length (shown d.state).timelines
  timelines_many = omega (arith, nth.held_count w h p d keeps, keeps.consistent.device.objects.timelines)
