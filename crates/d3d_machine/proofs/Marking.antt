-- The waits of a run are marked exactly where an update suffices that was current at their call or came since.
use Rattle.std.proofs.Common.{ℕ, zero, suc, ◌≡◌, ◌<◌, ◌≤◌, ◌+◌, ◌||◌, nat_lt, nat_le, refl, sym, ap, ◌∙◌, subst, Bool, true, false, ◌⊎◌, inl, inr, List, [], ◌∷◌, ◌++◌, map, length, length-append, append_assoc, Option, Some, None, arith}
use Rattle.std.specs.List.{list_any}
use Rattle.std.specs.Option.{option_map}
use Rattle.std.proofs.lemmas.Bool.{cases_eq}
use Rattle.std.proofs.lemmas.Bool.Decides.{nat_tests}
use Rattle.dx_base.specs.Lists.{changed_at}
use Rattle.dx_base.specs.Effects.{At}
use Rattle.dx_base.proofs.Effects.{unless_some}
use Rattle.dx_base.specs.declared.ids.ThreadId.{ThreadId}
use Rattle.dx_base.specs.declared.ids.FenceId.{FenceId}
use Rattle.d3d_machine.specs.declared.world.World.{World}
use Rattle.d3d_machine.specs.declared.calls.Call.{Call}
use Rattle.d3d_machine.specs.declared.calls.Call.TheVariants as call
use Rattle.d3d_machine.specs.declared.calls.Reply.{Reply}
use Rattle.d3d_machine.specs.declared.events.Operation.{Operation}
use Rattle.d3d_machine.specs.declared.events.Operation.TheVariants as operation
use Rattle.d3d_machine.specs.declared.events.Event.{Event}
use Rattle.d3d_machine.specs.declared.events.Event.TheVariants as event
use Rattle.d3d_machine.specs.World.{IsWorld}
use Rattle.d3d_machine.specs.State.{Waiting, Desk, State, Place, place_of, first_state, opening_place}
use Rattle.d3d_machine.specs.Replies.{refusal_by}
use Rattle.d3d_machine.specs.CallEffects.{here_of, does}
use Rattle.d3d_machine.specs.Effects.{done, marked_places, waiting_places, marked_option, dropped, desk_after_operation, head_of, desk_after_call, after, after_all}
use Rattle.d3d_machine.specs.Play.{May, SameButWords, IsRunButWords, state_after, calls_by}
use Rattle.d3d_machine.specs.Fences.{update_of, updates_from, applied_updates, is_met}
use Rattle.d3d_machine.specs.Marks.{waiting_at, marked_by, current_update, is_awake_of, IsMetSince}
use Rattle.d3d_machine.proofs.CallEffects.{is_wait}
use Rattle.d3d_machine.proofs.Runs.{state_after_append, run_induction, calls_in_append}
use Rattle.d3d_machine.proofs.Places.{place_in, one_more, kept_at, scripted, calls_by_no}
use Rattle.d3d_machine.proofs.Marks.{is_met_more, applied_append}
use Rattle.d3d_machine.proofs.Named.{next_is_named}
use Rattle.d3d_machine.proofs.Waits.{other_call, waits_mapped, waits_marked, waits_on, wait_begins, wait_ends}

-- the event is a wait that a thread calls
pub record IsWaitOf (t : ℕ) (e : Event) : Type 0 where
  pub thread : ThreadId
  pub fence : FenceId
  pub value : ℕ
  pub reply : Reply
  pub of_thread : thread.0 ≡ t
  pub is : e ≡ event.Call thread (call.HostWait fence value) reply

own_call : (w : World) (d : Desk) (u : ThreadId) (c : Call) (r : Reply) (t : ℕ) → u.0 ≡ t → (place_of d t).waits ≡ None →
    ((place_of (desk_after_call w d u.0 c) t).waits ≡ None) ⊎ IsWaitOf t (event.Call u c r)
own_call w d u c r t e h = by_wait (done w d.lists c).waits refl
  where
    by_wait : (o : Option (At ℕ)) → (done w d.lists c).waits ≡ o → ((place_of (desk_after_call w d u.0 c) t).waits ≡ None) ⊎ IsWaitOf t (event.Call u c r)
    by_wait None is =
        let ps : List Place = marked_places (done w d.lists c).sets d.threads in
        inl (kept_at (λ p. p.waits) one_more (λ p. refl) (waiting_places d u.0 (done w d.lists c).waits ps) u.0 t
        ∙ ap (λ x. (place_in (waiting_places d u.0 x ps) t).waits) is ∙ waits_marked (done w d.lists c).sets d.threads t
        ∙ ap (option_map (λ x. marked_by x (here_of x.fence (done w d.lists c).sets))) h)
    by_wait (Some x) is = inr (record {
      thread = u;
      fence = record { 0 = x.place };
      value = x.what;
      reply = r;
      of_thread = e;
      is = ap (λ k. event.Call u k r) (is_wait c x (unless_some (does c).waits (refusal_by w d.lists c) x is));
    })

still_none : (ps : List Place) (u t : ℕ) → (place_in ps t).waits ≡ None → (place_in (changed_at (λ p. record p { waits = None }) u ps) t).waits ≡ None
still_none [] u t h = refl
still_none (p ∷ ps) zero zero h = refl
still_none (p ∷ ps) zero (suc t) h = h
still_none (p ∷ ps) (suc u) zero h = h
still_none (p ∷ ps) (suc u) (suc t) h = still_none ps u t h

operation_none : (d : Desk) (o : Option Operation) (t : ℕ) → (place_of d t).waits ≡ None → (place_of (desk_after_operation d o) t).waits ≡ None
operation_none d None t h = h
operation_none d (Some (operation.Execute commands)) t h = h
operation_none d (Some (operation.Signal f v)) t h = waits_mapped f.0 v d.threads t ∙ ap (λ o. marked_option f.0 v o) h

-- a thread that does not wait begins to wait by its own call alone
pub none_step : (w : World) (s : State) (e : Event) (t : ℕ) → (place_of s.desk t).waits ≡ None →
    ((place_of (after w s e).desk t).waits ≡ None) ⊎ IsWaitOf t e
none_step w s (event.Call u c r) t h = elim (cases_eq u.0 t) [
  | inl e ↦ own_call w s.desk u c r t e h
  | inr n ↦ inl (other_call w s.desk u.0 c t n ∙ ap (option_map (λ x. marked_by x (here_of x.fence (done w s.desk.lists c).sets))) h)
]
none_step w s (event.Awake u) t h = inl (still_none s.desk.threads u.0 t h)
none_step w s (event.Queue q) t h = inl (operation_none (dropped s.desk q.0) (head_of s.desk q.0) t h)

-- the updates of two histories in a row
pub updates_from_both : (w : World) (s : State) (f : ℕ) (es fs : List Event) →
    updates_from w s f (es ++ fs) ≡ updates_from w s f es ++ updates_from w (after_all w s es) f fs
updates_from_both w s f [] fs = refl
updates_from_both w s f (e ∷ es) fs =
    ap (λ us. update_of w s.desk f e ++ us) (updates_from_both w (after w s e) f es fs)
    ∙ sym (append_assoc (update_of w s.desk f e) (updates_from w (after w s e) f es) (updates_from w (after_all w (after w s e) es) f fs))

-- the update that was current at an earlier moment has been applied
pub current_is_applied : (w : World) (h before behind : List Event) (f : ℕ) → h ≡ before ++ behind → current_update w before f ≤ length (applied_updates w h f)
current_is_applied w h before behind f e =
    let both : length (updates_from w (first_state w) f h) ≡ length (updates_from w (first_state w) f before) + length (updates_from w (after_all w (first_state w) before) f behind)
    = rw e (ap length (updates_from_both w (first_state w) f before behind)
    ∙ length-append (updates_from w (first_state w) f before) (updates_from w (after_all w (first_state w) before) f behind)) in
    omega arith

sleeping_call : (w : World) (s : State) (e : Event) (t : ℕ) (x : Waiting) → (place_of s.desk t).waits ≡ Some x → May SameButWords w s e → calls_by t e ≡ []
sleeping_call w s (event.Call u c r) t x h m =
    calls_by_no t u c r (λ e. let none : (place_of s.desk t).waits ≡ None = subst (λ k. (place_of s.desk k).waits ≡ None) e m.0 in cc)
sleeping_call w s (event.Awake u) t x h m = refl
sleeping_call w s (event.Queue q) t x h m = refl

-- a wait that begins with an event
begins_since : (w : World) (h : List Event) (e : Event) (t : ℕ) (y : Waiting) → IsWaitOf t e → IsWorld w → May SameButWords w (state_after w h) e →
    (place_of (state_after w (h ++ e ∷ [])).desk t).waits ≡ Some y → IsMetSince w (h ++ e ∷ []) t y
begins_since w h e t y c world may now =
    let m : May SameButWords w (state_after w h) (event.Call c.thread (call.HostWait c.fence c.value) c.reply) = subst (λ x. May SameButWords w (state_after w h) x) c.is may in
    let thread : c.thread.0 < length w.scripts = scripted w.scripts c.thread.0 (place_of (state_after w h).desk c.thread.0).made (call.HostWait c.fence c.value) m.1 in
    let named : nat_lt c.fence.0 (length w.fences) ≡ true = next_is_named w (state_after w h).desk c.thread.0 (call.HostWait c.fence c.value) world m.1 in
    let fence : c.fence.0 < length w.fences = grind (arith, nat_tests) in
    let begun : (place_of (state_after w (h ++ event.Call c.thread (call.HostWait c.fence c.value) c.reply ∷ [])).desk c.thread.0).waits
    ≡ Some (waiting_at w (h ++ event.Call c.thread (call.HostWait c.fence c.value) c.reply ∷ []) c.fence.0 c.value (current_update w h c.fence.0))
    = wait_begins w h c.thread c.fence c.value c.reply thread fence in
    let here : (place_of (state_after w (h ++ e ∷ [])).desk t).waits ≡ Some (waiting_at w (h ++ e ∷ []) c.fence.0 c.value (current_update w h c.fence.0))
    = subst (λ k. (place_of (state_after w (h ++ e ∷ [])).desk k).waits ≡ Some (waiting_at w (h ++ e ∷ []) c.fence.0 c.value (current_update w h c.fence.0))) c.of_thread
    (subst (λ x. (place_of (state_after w (h ++ x ∷ [])).desk c.thread.0).waits ≡ Some (waiting_at w (h ++ x ∷ []) c.fence.0 c.value (current_update w h c.fence.0))) (sym c.is) begun) in
    let same : waiting_at w (h ++ e ∷ []) c.fence.0 c.value (current_update w h c.fence.0) ≡ y = cc in
    subst (λ x. IsMetSince w (h ++ e ∷ []) t x) same (record {
      before = h;
      behind = [];
      thread = c.thread;
      fence = c.fence;
      reply = c.reply;
      of_thread = c.of_thread;
      of_fence = refl;
      history = ap (λ x. h ++ x ∷ []) c.is;
      last = refl;
      mark = refl;
    })

-- a wait that goes on with an event
goes_since : (w : World) (h : List Event) (e : Event) (t : ℕ) (x : Waiting) → IsMetSince w h t x → (place_of (state_after w h).desk t).waits ≡ Some x →
    May SameButWords w (state_after w h) e → IsMetSince w (h ++ e ∷ []) t (marked_by x (update_of w (state_after w h).desk x.fence e))
goes_since w h e t x i was may = record {
  before = i.before;
  behind = i.behind ++ e ∷ [];
  thread = i.thread;
  fence = i.fence;
  reply = i.reply;
  of_thread = i.of_thread;
  of_fence = i.of_fence;
  history = ap (λ es. es ++ e ∷ []) i.history ∙ append_assoc i.before (event.Call i.thread (call.HostWait i.fence x.value) i.reply ∷ i.behind) (e ∷ []);
  last = calls_in_append t i.behind e ∙ ap (λ cs. cs ++ calls_by t e) i.last ∙ sleeping_call w (state_after w h) e t x was may;
  mark = ap (λ b. b || list_any (λ u. nat_le x.value u) (update_of w (state_after w h).desk x.fence e)) i.mark
      ∙ sym (is_met_more (applied_updates w h x.fence) (update_of w (state_after w h).desk x.fence e) (current_update w i.before x.fence) x.value
      (current_is_applied w h i.before (event.Call i.thread (call.HostWait i.fence x.value) i.reply ∷ i.behind) x.fence i.history))
      ∙ ap (λ us. is_met us (current_update w i.before x.fence) x.value) (sym (applied_append w h e x.fence));
}

awake_ends : (w : World) (h : List Event) (e : Event) (t : ℕ) → is_awake_of t e ≡ true → (place_of (state_after w (h ++ e ∷ [])).desk t).waits ≡ None
awake_ends w h (event.Call u c r) t a = cc
awake_ends w h (event.Awake u) t a =
    let same : u.0 ≡ t = grind (arith, nat_tests) in
    subst (λ k. (place_of (state_after w (h ++ event.Awake u ∷ [])).desk k).waits ≡ None) same (wait_ends w h u)
awake_ends w h (event.Queue q) t a = cc

goes_unless : (w : World) (h : List Event) (e : Event) (t : ℕ) (x y : Waiting) (b : Bool) → is_awake_of t e ≡ b → IsMetSince w h t x →
    (place_of (state_after w h).desk t).waits ≡ Some x → May SameButWords w (state_after w h) e →
    (place_of (state_after w (h ++ e ∷ [])).desk t).waits ≡ Some y → IsMetSince w (h ++ e ∷ []) t y
goes_unless w h e t x y true a i was may now =
    let none : (place_of (state_after w (h ++ e ∷ [])).desk t).waits ≡ None = awake_ends w h e t a in cc
goes_unless w h e t x y false a i was may now =
    let on : (place_of (state_after w (h ++ e ∷ [])).desk t).waits ≡ Some (marked_by x (update_of w (state_after w h).desk x.fence e))
    = ap (λ s. (place_of s.desk t).waits) (state_after_append w h e) ∙ waits_on SameButWords w (state_after w h) e t x was may a in
    let same : marked_by x (update_of w (state_after w h).desk x.fence e) ≡ y = cc in
    subst (λ z. IsMetSince w (h ++ e ∷ []) t z) same (goes_since w h e t x i was may)

since_step : (w : World) (h : List Event) (e : Event) (t : ℕ) (y : Waiting) (o : Option Waiting) → (place_of (state_after w h).desk t).waits ≡ o → IsWorld w →
    ((x : Waiting) → (place_of (state_after w h).desk t).waits ≡ Some x → IsMetSince w h t x) → May SameButWords w (state_after w h) e →
    (place_of (state_after w (h ++ e ∷ [])).desk t).waits ≡ Some y → IsMetSince w (h ++ e ∷ []) t y
since_step w h e t y None was world holds may now = elim (none_step w (state_after w h) e t was) [
  | inl none ↦ let still : (place_of (state_after w (h ++ e ∷ [])).desk t).waits ≡ None = ap (λ s. (place_of s.desk t).waits) (state_after_append w h e) ∙ none in cc
  | inr c ↦ begins_since w h e t y c world may now
]
since_step w h e t y (Some x) was world holds may now = goes_unless w h e t x y (is_awake_of t e) refl (holds x was) was may now

no_wait_first : {A : Type 0} (scripts : List A) (t : ℕ) → (place_in (map (λ _. opening_place) scripts) t).waits ≡ None
no_wait_first [] t = refl
no_wait_first (x ∷ scripts) zero = refl
no_wait_first (x ∷ scripts) (suc t) = no_wait_first scripts t

-- in a run of a valid world each wait is marked exactly where an update suffices that was current at its call
-- or was applied since
pub marks_are_met : (w : World) (h : List Event) → IsWorld w → IsRunButWords w h → (t : ℕ) (x : Waiting) →
    (place_of (state_after w h).desk t).waits ≡ Some x → IsMetSince w h t x
marks_are_met w h world run = run_induction (λ es. (t : ℕ) (x : Waiting) → (place_of (state_after w es).desk t).waits ≡ Some x → IsMetSince w es t x) w
    (λ t x now. let none : (place_of (first_state w).desk t).waits ≡ None = no_wait_first w.scripts t in cc)
    (λ es e before holds may t y now. since_step w es e t y (place_of (state_after w es).desk t).waits refl world (holds t) may now)
    h run
