-- The system keeps what it keeps at each step.
use Rattle.std.proofs.Common.{ℕ, ◌≡◌, ◌+◌, ◌∙◌, sym, ap, subst, refl, List, [], ◌∷◌, ◌++◌, length, map, Some, None, Option, true, IsSome}
use Rattle.std.specs.List.{slice_get}
use Rattle.std.specs.Option.{option_map}
use Rattle.std.specs.Prelude.{nat_lt}
use Rattle.dx_base.specs.Lists.{changed_at}
use Rattle.dx_base.specs.declared.ids.ThreadId.{ThreadId}
use Rattle.d3d_machine.specs.declared.world.World.{World}
use Rattle.d3d_machine.specs.declared.calls.Call.{Call}
use Rattle.d3d_machine.specs.declared.events.Listed.{Listed}
use Rattle.dx_base.specs.Effects.{At, changed_by}
use Rattle.d3d_machine.specs.CallEffects.{does}
use Rattle.d3d_machine.specs.Effects.{with_one, done}
use Rattle.d3d_machine.proofs.CallEffects.{wait_sets_none}
use Rattle.d3d_machine.specs.declared.events.Event.{Event}
use Rattle.d3d_machine.specs.declared.events.Event.TheVariants as event
use Rattle.d3d_machine.specs.State.{Place, place_of, script_of}
use Rattle.d3d_machine.specs.Play.{is_marked, SameButWords, state_after}
use Rattle.d3d_machine.specs.Replies.{reply_of}
use Rattle.d3d_machine.specs.declared.calls.Reply.{Reply}
use Rattle.d3d_machine.specs.Past.{place_from, waiting_from}
use Rattle.vk_port.specs.DeviceView.{DeviceView}
use Rattle.vk_port.specs.Machine.{shown}
use Rattle.vk_port.specs.VkState.{VkState}
use Rattle.sys_core.specs.declared.parts.Armed.{Armed}
use Rattle.sys_core.specs.declared.parts.Seat.{Seat}
use Rattle.sys_core.specs.declared.parts.Parts.{Parts}
use Rattle.sys_core.specs.Parts.{Queued, queued, updates_in, wait_since, place_since, lists_by, held_by, fences_by, armed_or, seat_after, woken_seat}
use Rattle.sys_core.specs.Steps.{is_ready_thread, is_ready_place}
use Rattle.sys_core.specs.Consistent.{IsConsistent}
use Rattle.sys_core.specs.Lowering.{AreNumbers}
use Rattle.sys_core.specs.Serving.{Serves}
use Rattle.sys_core.specs.Keeps.{Keeps, ready_by}
use Rattle.sys_core.specs.Host.{IsReply, after_call}
use Rattle.sys_core.specs.Machine.{IsMachine}
use Rattle.sys_core.proofs.Buffers.{has_buffers, memory_long}
use Rattle.sys_core.proofs.MachineSteps.{call_shown, machine_call}
use Rattle.sys_core.proofs.Replies.{replies_alike}
use Rattle.sys_core.specs.WaitSearches.{AreSearched}
use Rattle.sys_core.proofs.PastParts.{place_now, lists_now, values_are}
use Rattle.sys_core.proofs.Calling.{changed_ext, consistent_call, consistent_awake}
use Rattle.sys_core.proofs.WaitSearches.{searched_call, searched_set, searched_awake}

-- the machine's place of a thread, from the system's
pub place_is : (w : World) (h : List Event) (p : Parts) (v : VkState) (t : ℕ) (s : Seat) →
    IsConsistent w h p.lists p.seats (map updates_in p.fences) (map queued p.held) v → slice_get p.seats t ≡ Some s →
    place_of (state_after w h).desk t ≡ place_from (map updates_in p.fences) (place_since s)
place_is w h p v t s is at = place_now w h p.lists p.seats (map updates_in p.fences) is.past_is is.world is.run t s at

ready_same : (script : List Call) (fences : List (List ℕ)) (s : Seat) → ready_by script fences s ≡ is_ready_place script (place_from fences (place_since s))
ready_same script fences s = by_wait s.made s.waits
  where
    by_wait : (made : ℕ) (o : Option Armed) →
        ready_by script fences (record { made = made; waits = o }) ≡ is_ready_place script (place_from fences (place_since (record { made = made; waits = o })))
    by_wait made None = refl
    by_wait made (Some a) = refl

-- a thread can go on, by the system's place of it, where its step is enabled
pub ready_is : (w : World) (h : List Event) (p : Parts) (d : DeviceView) (t : ℕ) (s : Seat) →
    Keeps w h p d → slice_get p.seats t ≡ Some s → ready_by (script_of w t) (map updates_in p.fences) s ≡ is_ready_thread w h t
ready_is w h p d t s keeps at =
    ready_same (script_of w t) (map updates_in p.fences) s
    ∙ ap (is_ready_place (script_of w t)) (sym (place_is w h p (shown d.state) t s keeps.consistent at))

-- the device has a plan
pub has_plan : (w : World) (h : List Event) (p : Parts) (d : DeviceView) → Keeps w h p d → IsSome d.plan
has_plan w h p d keeps = subst (λ o. IsSome o) (sym keeps.plan) refl

-- only a wait looks at the fences, and it leaves them
seat_unmoved : (w : World) (lists : List Listed) (c : Call) (fences : List (List ℕ)) (s : Seat) → seat_after (fences_by w lists c fences) c s ≡ seat_after fences c s
seat_unmoved w lists c fences s = by_wait (does c).waits refl
  where
    by_wait : (o : Option (At ℕ)) → (does c).waits ≡ o → seat_after (fences_by w lists c fences) c s ≡ seat_after fences c s
    by_wait None is =
        ap (λ x. let y : Seat = record { made = s.made + 1; waits = armed_or (fences_by w lists c fences) x s.waits } in y) is
        ∙ sym (ap (λ x. let y : Seat = record { made = s.made + 1; waits = armed_or fences x s.waits } in y) is)
    by_wait (Some x) is = ap (λ o. seat_after (changed_by with_one o fences) c s) (wait_sets_none w lists c x is)

-- a reply by the parts and what the host reads is the machine's but for words
pub reply_seen : (w : World) (h : List Event) (p : Parts) (d : DeviceView) (c : Call) (y : Reply) →
    Keeps w h p d → IsReply w p.lists (map updates_in p.fences) d.state c y → SameButWords y (reply_of w (state_after w h) c)
reply_seen w h p d c y keeps answers =
    replies_alike w d.state (state_after w h) (map updates_in p.fences) p.lists c y (lists_now w h p.lists p.seats (map updates_in p.fences) keeps.consistent.past_is)
    (values_are w h p.lists p.seats (map updates_in p.fences) keeps.consistent.past_is keeps.consistent.world keeps.consistent.run)
    (has_buffers w d.state keeps.consistent.world keeps.machine_is.sizes) (memory_long w h) answers

-- a call was served, and the thread's place moved
pub keeps_call : (w : World) (h : List Event) (p r x : Parts) (d e : DeviceView) (t : ThreadId) (c : Call) (y : Reply) (s : Seat) →
    Keeps w h p d → slice_get p.seats t.0 ≡ Some s → s.waits ≡ None → slice_get (script_of w t.0) s.made ≡ Some c →
    Serves w c p r → IsReply w p.lists (map updates_in p.fences) d.state c y → e.state ≡ after_call w p.lists d.state c y → (IsSome d.plan → e.plan ≡ d.plan) →
    x.lists ≡ r.lists → x.fences ≡ r.fences → x.held ≡ r.held → x.numbers ≡ r.numbers → x.seats ≡ changed_at (seat_after (map updates_in r.fences) c) t.0 r.seats →
    Keeps w (h ++ event.Call t c y ∷ []) x e
keeps_call w h p r x d e t c y s keeps at waits next serves answers after plan lists fences held numbers seats =
    let us : List (List ℕ) = map updates_in p.fences in
    let place : place_of (state_after w h).desk t.0 ≡ place_from us (place_since s) = place_is w h p (shown d.state) t.0 s keeps.consistent at in
    let k : List Event = h ++ event.Call t c y ∷ [] in
    let v : VkState = shown d.state in
    let qs : List Queued = held_by w p.lists c (map queued p.held) in
    let is : IsConsistent w k (lists_by w p.lists c) (changed_at (seat_after us c) t.0 p.seats) (fences_by w p.lists c us) qs v =
    consistent_call w h p.lists p.seats us (map queued p.held) (shown d.state) t c y keeps.consistent
    (ap (λ (y : Place). y.waits) place ∙ ap (λ o. option_map (waiting_from us) (option_map wait_since o)) waits)
    (ap (λ (y : Place). slice_get (script_of w t.0) y.made) place ∙ next) (reply_seen w h p d c y keeps answers) in
    let placed : x.seats ≡ changed_at (seat_after (fences_by w p.lists c us) c) t.0 p.seats =
    seats ∙ ap (λ fs. changed_at (seat_after fs c) t.0 r.seats) serves.fences ∙ ap (changed_at (seat_after (fences_by w p.lists c us) c) t.0) serves.seats in
    let seated : x.seats ≡ changed_at (seat_after us c) t.0 p.seats =
    placed ∙ changed_ext (seat_after (fences_by w p.lists c us) c) (seat_after us c) t.0 p.seats (seat_unmoved w p.lists c us) in
    record {
      consistent =
          subst (λ y. IsConsistent w k x.lists x.seats (map updates_in x.fences) (map queued x.held) y) (sym (ap (λ m. shown m) after ∙ call_shown w p.lists d.state c y))
          (subst (λ y. IsConsistent w k x.lists x.seats (map updates_in x.fences) y v) (sym (ap (map queued) held ∙ serves.held))
          (subst (λ y. IsConsistent w k x.lists x.seats y qs v) (sym (ap (map updates_in) fences ∙ serves.fences))
          (subst (λ y. IsConsistent w k x.lists y (fences_by w p.lists c us) qs v) (sym seated)
          (subst (λ y. IsConsistent w k y (changed_at (seat_after us c) t.0 p.seats) (fences_by w p.lists c us) qs v)
          (sym (lists ∙ serves.lists)) is))));
      machine_is = subst (IsMachine w) (sym after) (machine_call w p.lists d.state c y keeps.machine_is);
      plan = plan (has_plan w h p d keeps) ∙ keeps.plan;
      numbers = subst (AreNumbers w.resources) (sym (numbers ∙ serves.numbers)) keeps.numbers;
      searched =
          subst (λ xs. AreSearched xs x.seats) (sym (ap (map updates_in) fences ∙ serves.fences))
          (subst (AreSearched (fences_by w p.lists c us)) (sym placed)
          (searched_call (fences_by w p.lists c us) c t.0 p.seats (searched_set us (done w p.lists c).sets p.seats keeps.searched)));
    }

-- a thread that can go on, and waits, may wake
pub may_awake : (w : World) (h : List Event) (p : Parts) (d : DeviceView) (t : ThreadId) (s : Seat) (a : Armed) →
    Keeps w h p d → slice_get p.seats t.0 ≡ Some s → s.waits ≡ Some a → is_ready_thread w h t.0 ≡ true → is_marked (place_of (state_after w h).desk t.0).waits ≡ true
may_awake w h p d t s a keeps at waits ready =
    let us : List (List ℕ) = map updates_in p.fences in
    let place : place_of (state_after w h).desk t.0 ≡ place_from us (place_since s) = place_is w h p (shown d.state) t.0 s keeps.consistent at in
    let waiting : (place_of (state_after w h).desk t.0).waits ≡ Some (waiting_from us (wait_since a)) = ap (λ (y : Place). y.waits) place ∙ ap (λ o. option_map (waiting_from us) (option_map wait_since o)) waits in
    ap is_marked waiting ∙ sym (ap (λ o. elim o [ None ↦ nat_lt (place_of (state_after w h).desk t.0).made (length (script_of w t.0)) | Some y ↦ y.marked ]) waiting) ∙ ready

-- a thread woke
pub keeps_awake : (w : World) (h : List Event) (p x : Parts) (d : DeviceView) (t : ThreadId) (s : Seat) (a : Armed) →
    Keeps w h p d → slice_get p.seats t.0 ≡ Some s → s.waits ≡ Some a → is_ready_thread w h t.0 ≡ true →
    x.lists ≡ p.lists → x.fences ≡ p.fences → x.held ≡ p.held → x.numbers ≡ p.numbers → x.seats ≡ changed_at woken_seat t.0 p.seats →
    Keeps w (h ++ event.Awake t ∷ []) x d
keeps_awake w h p x d t s a keeps at waits ready lists fences held numbers seats =
    let us : List (List ℕ) = map updates_in p.fences in
    let k : List Event = h ++ event.Awake t ∷ [] in
    let may : is_marked (place_of (state_after w h).desk t.0).waits ≡ true = may_awake w h p d t s a keeps at waits ready in
    let is : IsConsistent w k p.lists (changed_at woken_seat t.0 p.seats) (map updates_in p.fences) (map queued p.held) (shown d.state) =
    consistent_awake w h p.lists p.seats (map updates_in p.fences) (map queued p.held) (shown d.state) t keeps.consistent may in
    record {
      consistent =
          subst (λ y. IsConsistent w k x.lists x.seats (map updates_in x.fences) (map queued y) (shown d.state)) (sym held)
          (subst (λ y. IsConsistent w k x.lists x.seats (map updates_in y) (map queued p.held) (shown d.state)) (sym fences)
          (subst (λ y. IsConsistent w k x.lists y (map updates_in p.fences) (map queued p.held) (shown d.state)) (sym seats)
          (subst (λ y. IsConsistent w k y (changed_at woken_seat t.0 p.seats) (map updates_in p.fences) (map queued p.held) (shown d.state)) (sym lists) is)));
      machine_is = keeps.machine_is;
      plan = keeps.plan;
      numbers = subst (AreNumbers w.resources) (sym numbers) keeps.numbers;
      searched =
          subst (λ y. AreSearched (map updates_in y) x.seats) (sym fences)
          (subst (AreSearched us) (sym seats) (searched_awake us t.0 p.seats keeps.searched));
    }

-- the waits were looked through further
pub keeps_searched : (w : World) (h : List Event) (p : Parts) (d : DeviceView) (seats : List Seat) →
    Keeps w h p d → AreSearched (map updates_in p.fences) seats → map place_since seats ≡ map place_since p.seats → Keeps w h (record p { seats = seats }) d
keeps_searched w h p d seats keeps searched same = record {
  consistent = record {
    world = keeps.consistent.world;
    run = keeps.consistent.run;
    past_is = record { lists_are = keeps.consistent.past_is.lists_are; places_are = same ∙ keeps.consistent.past_is.places_are; fences_are = keeps.consistent.past_is.fences_are };
    held_are = keeps.consistent.held_are;
    device = keeps.consistent.device;
  };
  machine_is = keeps.machine_is;
  plan = keeps.plan;
  numbers = keeps.numbers;
  searched = searched;
}
