-- The wait of a thread after an event, and its mark along a run.
use Rattle.std.proofs.Common.{ℕ, zero, suc, ◌≡◌, ◌≢◌, ◌<◌, ◌≤◌, ◌==◌, ◌||◌, nat_le, refl, sym, ap, ◌∙◌, subst, Bool, true, false, if◌then◌else◌, inl, inr, List, [], ◌∷◌, ◌++◌, map, length, append-nil, Option, Some, None, arith}
use Rattle.std.specs.Option.{option_map}
use Rattle.std.proofs.lemmas.Bool.{cases_eq}
use Rattle.std.proofs.lemmas.Bool.Decides.{nat_tests}
use Rattle.dx_base.specs.Lists.{changed_at}
use Rattle.dx_base.specs.Effects.{At}
use Rattle.dx_base.specs.declared.ids.ThreadId.{ThreadId}
use Rattle.dx_base.specs.declared.ids.FenceId.{FenceId}
use Rattle.d3d_machine.specs.declared.world.World.{World}
use Rattle.d3d_machine.specs.declared.calls.Call.{Call}
use Rattle.d3d_machine.specs.declared.calls.Call.TheVariants as call
use Rattle.d3d_machine.specs.declared.calls.Reply.{Reply}
use Rattle.d3d_machine.specs.declared.events.Operation.{Operation}
use Rattle.d3d_machine.specs.declared.events.Operation.TheVariants as operation
use Rattle.d3d_machine.specs.declared.events.Event.{Event}
use Rattle.d3d_machine.specs.declared.events.Event.TheVariants as event
use Rattle.d3d_machine.specs.State.{Waiting, Desk, State, Place, place_of, value_of}
use Rattle.d3d_machine.specs.CallEffects.{here_of}
use Rattle.d3d_machine.specs.Effects.{done, marked_places, waiting_places, marked_wait, marked_option, marked_place, dropped, desk_after_operation, head_of, desk_after_call, after, begins_wait}
use Rattle.d3d_machine.specs.Play.{May, SameButWords, state_after}
use Rattle.d3d_machine.specs.Fences.{operation_sets, update_of, applied_updates, is_met}
use Rattle.d3d_machine.specs.Marks.{waiting_at, marked_by, current_update, is_awake_of}
use Rattle.d3d_machine.specs.Shape.{HasShape}
use Rattle.d3d_machine.proofs.Shape.{run_has_shape}
use Rattle.d3d_machine.proofs.Runs.{state_after_append}
use Rattle.d3d_machine.proofs.Places.{place_in, one_more, changed_here, changed_other, kept_at}
use Rattle.d3d_machine.proofs.Marks.{is_met_more, applied_append, met_at_call}

or_false : (b : Bool) → (b || false) ≡ b
or_false true = refl
or_false false = refl

marked_by_none : (x : Waiting) → marked_by x [] ≡ x
marked_by_none x = ap (λ b. record { fence = x.fence; value = x.value; marked = b }) (or_false x.marked)

pub waits_mapped : (f v : ℕ) (ps : List Place) (t : ℕ) → (place_in (map (marked_place f v) ps) t).waits ≡ marked_option f v (place_in ps t).waits
waits_mapped f v [] t = refl
waits_mapped f v (p ∷ ps) zero = refl
waits_mapped f v (p ∷ ps) (suc t) = waits_mapped f v ps t

-- what one signal does to a wait is what its update does
signal_marks : (x : Waiting) (g v : ℕ) → marked_wait g v x ≡ marked_by x (if (g == x.fence) then v ∷ [] else [])
signal_marks x g v = elim (cases_eq g x.fence) [
  | inl e ↦ let yes : (x.fence == g) ≡ true = grind (arith, nat_tests) in
      let also : (g == x.fence) ≡ true = grind (arith, nat_tests) in
      rw (yes, also) (ap (λ b. record { fence = x.fence; value = x.value; marked = x.marked || b }) (sym (or_false (nat_le x.value v))))
  | inr n ↦ let no : (x.fence == g) ≡ false = grind (arith, nat_tests) in
      let nor : (g == x.fence) ≡ false = grind (arith, nat_tests) in
      rw (no, nor) refl
]

signal_marks_all : (o : Option Waiting) (g v : ℕ) → marked_option g v o ≡ option_map (λ x. marked_by x (if (g == x.fence) then v ∷ [] else [])) o
signal_marks_all None g v = refl
signal_marks_all (Some x) g v = ap (λ y. Some y) (signal_marks x g v)

nothing_marks : (o : Option Waiting) → o ≡ option_map (λ x. marked_by x []) o
nothing_marks None = refl
nothing_marks (Some x) = ap (λ y. Some y) (sym (marked_by_none x))

pub waits_marked : (o : Option (At ℕ)) (ps : List Place) (t : ℕ) →
    (place_in (marked_places o ps) t).waits ≡ option_map (λ x. marked_by x (here_of x.fence o)) (place_in ps t).waits
waits_marked None ps t = nothing_marks (place_in ps t).waits
waits_marked (Some x) ps t = waits_mapped x.place x.what ps t ∙ signal_marks_all (place_in ps t).waits x.place x.what

waiting_other : (d : Desk) (u : ℕ) (o : Option (At ℕ)) (ps : List Place) (t : ℕ) → u ≢ t → place_in (waiting_places d u o ps) t ≡ place_in ps t
waiting_other d u None ps t n = refl
waiting_other d u (Some x) ps t n = changed_other (begins_wait (value_of d x.place) x.place x.what) ps u t n

-- a call marks the wait of another thread by its update, where it is one
pub other_call : (w : World) (d : Desk) (u : ℕ) (c : Call) (t : ℕ) → u ≢ t →
    (place_of (desk_after_call w d u c) t).waits ≡ option_map (λ x. marked_by x (here_of x.fence (done w d.lists c).sets)) (place_of d t).waits
other_call w d u c t n =
    let ps : List Place = marked_places (done w d.lists c).sets d.threads in
    ap (λ p. p.waits) (changed_other one_more (waiting_places d u (done w d.lists c).waits ps) u t n ∙ waiting_other d u (done w d.lists c).waits ps t n)
    ∙ waits_marked (done w d.lists c).sets d.threads t

operation_marks : (d : Desk) (o : Option Operation) (t : ℕ) (x : Waiting) → (place_of d t).waits ≡ Some x →
    (place_of (desk_after_operation d o) t).waits ≡ Some (marked_by x (here_of x.fence (operation_sets o)))
operation_marks d None t x h = h ∙ ap (λ y. Some y) (sym (marked_by_none x))
operation_marks d (Some (operation.Execute commands)) t x h = h ∙ ap (λ y. Some y) (sym (marked_by_none x))
operation_marks d (Some (operation.Signal g v)) t x h =
    waits_mapped g.0 v d.threads t ∙ ap (λ o. marked_option g.0 v o) h ∙ ap (λ y. Some y) (signal_marks x g.0 v)

-- a wait that goes on is marked by the updates of its fence
pub waits_on : (Same : Reply → Reply → Type 0) (w : World) (s : State) (e : Event) (t : ℕ) (x : Waiting) → (place_of s.desk t).waits ≡ Some x →
    May Same w s e → is_awake_of t e ≡ false → (place_of (after w s e).desk t).waits ≡ Some (marked_by x (update_of w s.desk x.fence e))
waits_on Same w s (event.Call u c r) t x h m sleeps =
    let apart : u.0 ≢ t = λ e. let none : (place_of s.desk t).waits ≡ None = subst (λ k. (place_of s.desk k).waits ≡ None) e m.0 in cc in
    other_call w s.desk u.0 c t apart ∙ ap (option_map (λ y. marked_by y (here_of y.fence (done w s.desk.lists c).sets))) h
waits_on Same w s (event.Awake u) t x h m sleeps =
    let apart : u.0 ≢ t = grind (arith, nat_tests) in
    ap (λ p. p.waits) (changed_other (λ p. record p { waits = None }) s.desk.threads u.0 t apart) ∙ h ∙ ap (λ y. Some y) (sym (marked_by_none x))
waits_on Same w s (event.Queue q) t x h m sleeps = operation_marks (dropped s.desk q.0) (head_of s.desk q.0) t x h

-- a wait begins with the mark that the fence's value gives it
pub waits_begin : (w : World) (s : State) (u : ThreadId) (f : FenceId) (v : ℕ) (r : Reply) → u.0 < length s.desk.threads →
    (place_of (after w s (event.Call u (call.HostWait f v) r)).desk u.0).waits
    ≡ Some (record { fence = f.0; value = v; marked = nat_le v (value_of s.desk f.0) })
waits_begin w s u f v r h =
    kept_at (λ p. p.waits) one_more (λ p. refl) (changed_at (begins_wait (value_of s.desk f.0) f.0 v) u.0 s.desk.threads) u.0 u.0
    ∙ ap (λ p. p.waits) (changed_here (begins_wait (value_of s.desk f.0) f.0 v) s.desk.threads u.0 h)

wait_more : (w : World) (h : List Event) (e : Event) (f v since : ℕ) → since ≤ length (applied_updates w h f) →
    marked_by (waiting_at w h f v since) (update_of w (state_after w h).desk f e) ≡ waiting_at w (h ++ e ∷ []) f v since
wait_more w h e f v since l =
    ap (λ b. record { fence = f; value = v; marked = b })
    (sym (ap (λ us. is_met us since v) (applied_append w h e f) ∙ is_met_more (applied_updates w h f) (update_of w (state_after w h).desk f e) since v l))

-- at the call: the wait is marked where the update that is current then suffices
pub wait_begins : (w : World) (h : List Event) (u : ThreadId) (f : FenceId) (v : ℕ) (r : Reply) → u.0 < length w.scripts → f.0 < length w.fences →
    (place_of (state_after w (h ++ event.Call u (call.HostWait f v) r ∷ [])).desk u.0).waits
    ≡ Some (waiting_at w (h ++ event.Call u (call.HostWait f v) r ∷ []) f.0 v (current_update w h f.0))
wait_begins w h u f v r thread fence =
    let shape : HasShape w (state_after w h) = run_has_shape w h in
    ap (λ s. (place_of s.desk u.0).waits) (state_after_append w h (event.Call u (call.HostWait f v) r))
    ∙ waits_begin w (state_after w h) u f v r (rw shape.desk.threads thread)
    ∙ ap (λ b. Some (record { fence = f.0; value = v; marked = b }))
    (sym (ap (λ us. is_met us (current_update w h f.0) v) (applied_append w h (event.Call u (call.HostWait f v) r) f.0 ∙ append-nil (applied_updates w h f.0))
    ∙ met_at_call w h f.0 v fence))

-- from then on: any event but the thread's waking leaves its wait, marked where an update since the call suffices
pub wait_goes_on : (w : World) (h : List Event) (e : Event) (t f v since : ℕ) → May SameButWords w (state_after w h) e → is_awake_of t e ≡ false →
    since ≤ length (applied_updates w h f) → (place_of (state_after w h).desk t).waits ≡ Some (waiting_at w h f v since) →
    (place_of (state_after w (h ++ e ∷ [])).desk t).waits ≡ Some (waiting_at w (h ++ e ∷ []) f v since)
wait_goes_on w h e t f v since may sleeps l now =
    ap (λ s. (place_of s.desk t).waits) (state_after_append w h e)
    ∙ waits_on SameButWords w (state_after w h) e t (waiting_at w h f v since) now may sleeps
    ∙ ap (λ y. Some y) (wait_more w h e f v since l)

pub woken_waits : (ps : List Place) (t : ℕ) → (place_in (changed_at (λ p. record p { waits = None }) t ps) t).waits ≡ None
woken_waits [] t = refl
woken_waits (p ∷ ps) zero = refl
woken_waits (p ∷ ps) (suc t) = woken_waits ps t

-- a thread that wakes waits no longer
pub wait_ends : (w : World) (h : List Event) (u : ThreadId) → (place_of (state_after w (h ++ event.Awake u ∷ [])).desk u.0).waits ≡ None
wait_ends w h u = ap (λ s. (place_of s.desk u.0).waits) (state_after_append w h (event.Awake u)) ∙ woken_waits (state_after w h).desk.threads u.0
