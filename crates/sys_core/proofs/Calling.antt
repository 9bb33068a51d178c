-- The system stays consistent when it has served a call, and when a thread wakes.
use Rattle.std.proofs.Common.{ℕ, zero, suc, ◌≡◌, ◌∙◌, sym, ap, refl, arith, List, [], ◌∷◌, ◌++◌, length, Some, None, Option, append-nil, inl, inr}
use Rattle.std.specs.List.{slice_get}
use Rattle.std.specs.Prelude.{if◌then◌else◌}
use Rattle.dx_base.specs.Lists.{changed_at}
use Rattle.dx_base.specs.declared.ids.ThreadId.{ThreadId}
use Rattle.dx_base.specs.Effects.{At, changed_by}
use Rattle.dx_base.proofs.Effects.{length_by}
use Rattle.dx_base.proofs.Lists.{get_changed, get_changed_other}
use Rattle.d3d_machine.specs.declared.world.World.{World}
use Rattle.d3d_machine.specs.declared.calls.Call.{Call}
use Rattle.d3d_machine.specs.CallEffects.{here_of}
use Rattle.d3d_machine.specs.declared.calls.Reply.{Reply}
use Rattle.d3d_machine.specs.declared.events.Listed.{Listed}
use Rattle.d3d_machine.specs.declared.events.Event.{Event}
use Rattle.d3d_machine.specs.declared.events.Event.TheVariants as event
use Rattle.d3d_machine.specs.State.{Desk, place_of, next_call}
use Rattle.d3d_machine.specs.Replies.{reply_of}
use Rattle.d3d_machine.specs.Play.{May, SameButWords, state_after}
use Rattle.d3d_machine.proofs.Runs.{run_append}
use Rattle.vk_port.specs.VkState.{VkState}
use Rattle.sys_core.specs.declared.parts.Seat.{Seat}
use Rattle.d3d_machine.specs.declared.events.Operation.{Operation}
use Rattle.d3d_machine.specs.Operations.{event_gives, called_by, completions_by}
use Rattle.d3d_machine.proofs.Operations.{counter_append}
use Rattle.std.proofs.lemmas.Bool.Decides.{eqb_tells}
use Rattle.std.specs.Option.{option_map}
use Rattle.sys_core.specs.Parts.{Queued, with_operation, held_by, fences_by, woken_seat, lists_by, seat_after}
use Rattle.sys_core.specs.Consistent.{AreHeld, IsDevice, IsConsistent}
use Rattle.sys_core.proofs.Standing.{stands_event}
use Rattle.sys_core.proofs.Holding.{held_event}
use Rattle.sys_core.proofs.PastParts.{lists_now, past_call, past_awake}

pub changed_ext : {A : Type 0} (f g : A → A) (k : ℕ) (xs : List A) → ((x : A) → f x ≡ g x) → changed_at f k xs ≡ changed_at g k xs
changed_ext f g k [] same = refl
changed_ext f g zero (x ∷ xs) same = ap (λ y. y ∷ xs) (same x)
changed_ext f g (suc k) (x ∷ xs) same = ap (λ ys. x ∷ ys) (changed_ext f g k xs same)

pub mapped_some : {A B : Type 0} (f : A → B) (o : Option A) (y : B) → option_map f o ≡ Some y → (x : A) × (o ≡ Some x) × (y ≡ f x)
mapped_some f None y is = absurd (cc)
mapped_some f (Some x) y is = (x, refl, grind arith)

-- a queue after a call: with the operation that the call gave it
abbrev called_on : List Operation → Queued → Queued
called_on os x = record x { operations = x.operations ++ os }

none_called : (x : Queued) → called_on [] x ≡ x
none_called x = ap (λ os. let y : Queued = record x { operations = os } in y) (append-nil x.operations)

-- a queue after a call, from the one before
called_at : (o : Option (At Operation)) (q : ℕ) (held : List Queued) (y : Queued) → slice_get (changed_by with_operation o held) q ≡ Some y →
    (x : Queued) × (slice_get held q ≡ Some x) × (y ≡ called_on (here_of q o) x)
called_at None q held y is = (y, is, sym (none_called y))
called_at (Some x) q held y is =
    let o : Operation = x.what in
    elim (eqb_tells x.place q) [
      | inl same ↦
          let at : slice_get (changed_at (with_operation o) x.place held) x.place ≡ Some y = ap (slice_get (changed_at (with_operation o) x.place held)) same.1 ∙ is in
          let found : (z : Queued) × (slice_get held x.place ≡ Some z) × (y ≡ with_operation o z) = mapped_some (with_operation o) (slice_get held x.place) y (sym (get_changed (with_operation o) held x.place) ∙ at) in
          (found.0, ap (slice_get held) (sym same.1) ∙ found.1, found.2 ∙ ap (λ t. called_on (if t then o ∷ [] else []) found.0) (sym same.0))
      | inr other ↦ (
        y,
        sym (get_changed_other (with_operation o) held x.place q other.1) ∙ is,
        sym (none_called y) ∙ ap (λ t. called_on (if t then o ∷ [] else []) y) (sym other.0),
      )
    ]

pub held_are : (w : World) (h : List Event) (v : VkState) (lists : List Listed) (held : List Queued) (t : ThreadId) (c : Call) (r : Reply) → AreHeld w h v held →
    lists ≡ (state_after w h).desk.lists → AreHeld w (h ++ event.Call t c r ∷ []) v (held_by w lists c held)
held_are w h v lists held t c r are same =
    let d : Desk = (state_after w h).desk in
    let e : Event = event.Call t c r in
    let by : held_by w lists c held ≡ changed_by with_operation (event_gives w d e) held = ap (λ ls. held_by w ls c held) same in
    record {
      count = ap length by ∙ length_by with_operation (event_gives w d e) held ∙ are.count;
      each = λ q y at.
          let found : (x : Queued) × (slice_get held q ≡ Some x) × (y ≡ called_on (called_by w d q e) x) = called_at (event_gives w d e) q held y (ap (λ ys. slice_get ys q) (sym by) ∙ at) in
          held_event w h e v v q found.0 y (are.each q found.0 found.1) refl refl
          (ap (λ (x : Queued). x.submitted) found.2) (ap (λ (x : Queued). x.last_signal) found.2) (ap (λ (x : Queued). x.signals) found.2) (ap (λ (x : Queued). x.operations) found.2);
    }

-- the device after an event of a thread
pub device_is : (w : World) (h : List Event) (e : Event) (v : VkState) → IsDevice w h v → ((q : ℕ) → completions_by q e ≡ 0) → IsDevice w (h ++ e ∷ []) v
device_is w h e v is none = record {
  valid = is.valid;
  objects = is.objects;
  stands = stands_event w h e v v is.stands none refl refl;
  named = is.named;
  finished = λ q within. omega (arith, counter_append q h e, none q, is.finished q within);
  opening = is.opening;
  unopened = is.unopened;
}

-- a call that is served, with a reply that is the machine's but for words
pub consistent_call : (w : World) (h : List Event) (lists : List Listed) (seats : List Seat) (fences : List (List ℕ)) (held : List Queued) (v : VkState) (t : ThreadId) (c : Call) (r : Reply) →
    IsConsistent w h lists seats fences held v → (place_of (state_after w h).desk t.0).waits ≡ None → next_call w (state_after w h).desk t.0 ≡ Some c →
    SameButWords r (reply_of w (state_after w h) c) →
    IsConsistent w (h ++ event.Call t c r ∷ []) (lists_by w lists c) (changed_at (seat_after fences c) t.0 seats) (fences_by w lists c fences) (held_by w lists c held) v
consistent_call w h lists seats fences held v t c r is waits next same =
    let e : Event = event.Call t c r in
    record {
      world = is.world;
      run = run_append w h e is.run (waits, next, same);
      past_is = past_call w h t c r lists seats fences is.past_is;
      held_are = held_are w h v lists held t c r is.held_are (lists_now w h lists seats fences is.past_is);
      device = device_is w h e v is.device (λ q. refl);
    }

held_awake : (w : World) (h : List Event) (v : VkState) (held : List Queued) (t : ThreadId) → AreHeld w h v held → AreHeld w (h ++ event.Awake t ∷ []) v held
held_awake w h v held t are = record {
  count = are.count;
  each = λ q x at. held_event w h (event.Awake t) v v q x x (are.each q x at) refl refl refl refl refl (sym (append-nil x.operations));
}

-- a thread that wakes
pub consistent_awake : (w : World) (h : List Event) (lists : List Listed) (seats : List Seat) (fences : List (List ℕ)) (held : List Queued) (v : VkState) (t : ThreadId) →
    IsConsistent w h lists seats fences held v → May SameButWords w (state_after w h) (event.Awake t) →
    IsConsistent w (h ++ event.Awake t ∷ []) lists (changed_at woken_seat t.0 seats) fences held v
consistent_awake w h lists seats fences held v t is may =
    let e : Event = event.Awake t in
    record {
      world = is.world;
      run = run_append w h e is.run may;
      past_is = past_awake w h t lists seats fences is.past_is;
      held_are = held_awake w h v held t is.held_are;
      device = device_is w h e v is.device (λ q. refl);
    }
