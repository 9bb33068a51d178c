-- What a thread's step needs, and what its event is.
use Rattle.std.proofs.Common.{ℕ, ◌≡◌, ◌<◌, ◌∙◌, sym, ap, subst, refl, arith, List, [], ◌∷◌, ◌++◌, length, map, Some, None, Option, true, set, inl, inr}
use Rattle.std.proofs.lemmas.Bool.{ltb-true}
use Rattle.std.proofs.lemmas.List.{length-map}
use Rattle.std.proofs.lemmas.Option.{slice_get_past, slice_get_cases}
use Rattle.std.specs.List.{slice_get}
use Rattle.std.specs.Option.{option_map}
use Rattle.dx_base.specs.Lists.{changed_at}
use Rattle.dx_base.specs.declared.ids.ThreadId.{ThreadId}
use Rattle.dx_base.proofs.Lists.{set_is_changed}
use Rattle.d3d_machine.specs.declared.world.World.{World}
use Rattle.d3d_machine.specs.declared.calls.Call.{Call}
use Rattle.d3d_machine.specs.declared.events.Event.{Event}
use Rattle.d3d_machine.specs.declared.events.Event.TheVariants as event
use Rattle.d3d_machine.specs.World.{is_named}
use Rattle.d3d_machine.specs.State.{Place, place_of, opening_place, next_call, script_of}
use Rattle.d3d_machine.specs.declared.calls.Reply.{Reply}
use Rattle.d3d_machine.specs.Effects.{done}
use Rattle.d3d_machine.specs.Play.{state_after}
use Rattle.d3d_machine.proofs.Shape.{run_has_shape}
use Rattle.d3d_machine.proofs.Named.{next_is_named}
use Rattle.vk_sync_rules.specs.VkState.{VkState as Machine}
use Rattle.vk_port.specs.DeviceView.{DeviceView}
use Rattle.vk_port.specs.Machine.{shown}
use Rattle.sys_core.specs.declared.parts.Armed.{Armed}
use Rattle.sys_core.specs.declared.parts.Seat.{Seat}
use Rattle.sys_core.specs.declared.parts.Parts.{Parts}
use Rattle.sys_core.specs.Parts.{queued, updates_in, wait_since, seat_after}
use Rattle.sys_core.specs.Host.{IsReply, after_call, reply_by}
use Rattle.sys_core.specs.ThreadSteps.{HasWords, IsThreadStep}
use Rattle.sys_core.specs.Steps.{is_ready_thread, is_ready_place}
use Rattle.d3d_machine.specs.Past.{waiting_from}
use Rattle.sys_core.specs.Machine.{HasBuffers}
use Rattle.sys_core.specs.Keeps.{Keeps, ready_by}
use Rattle.sys_core.proofs.Buffers.{has_buffers}
use Rattle.sys_core.proofs.PastParts.{lists_now, seats_many}
use Rattle.sys_core.proofs.Keeping.{place_is, ready_is, may_awake, reply_seen}
use Rattle.sys_core.proofs.Replies.{tells_words}

-- a thread's place written after a call
pub seat_written : (fences : List (List ℕ)) (c : Call) (seats : List Seat) (t : ℕ) (s y : Seat) → slice_get seats t ≡ Some s → y ≡ seat_after fences c s →
    set seats t y ≡ changed_at (seat_after fences c) t seats
seat_written fences c seats t s y at is = ap (set seats t) is ∙ set_is_changed (seat_after fences c) seats t s at

module _ (w : World) (h : List Event) (p : Parts) (d : DeviceView) (keeps : Keeps w h p d) where
  seats_length : length p.seats ≡ length w.scripts
  seats_length = seats_many w h p.lists p.seats (map updates_in p.fences) keeps.consistent.past_is

  lists_are : p.lists ≡ (state_after w h).desk.lists
  lists_are = lists_now w h p.lists p.seats (map updates_in p.fences) keeps.consistent.past_is

  no_thread : (o : Option (List Call)) (x : Option Place) → o ≡ None → x ≡ None →
      is_ready_place (elim o [ None ↦ [] | Some cs ↦ cs ]) (elim x [ None ↦ opening_place | Some y ↦ y ]) ≡ true → ⊥
  no_thread None None gone none ready = absurd (cc)
  no_thread None (Some y) gone none ready = absurd (cc)
  no_thread (Some cs) x gone none ready = absurd (cc)

  threads_length : length (state_after w h).desk.threads ≡ length w.scripts
  threads_length = (run_has_shape w h).desk.threads

  -- a thread whose step is enabled is one of the world
  pub thread_there : (t : ℕ) → is_ready_thread w h t ≡ true → (t < length p.seats) × (t < length w.scripts)
  thread_there t ready = elim (slice_get_cases w.scripts t).1 [
    | inl found ↦ (omega (arith, found.1, seats_length), found.1)
    | inr past ↦ absurd (no_thread (slice_get w.scripts t) (slice_get (state_after w h).desk.threads t) past.1
        (slice_get_past (state_after w h).desk.threads t (omega (arith, past.0, threads_length))) ready)
  ]

  -- a thread that does not wait has a call left
  pub call_left : (t : ℕ) (s : Seat) → slice_get p.seats t ≡ Some s → s.waits ≡ None → is_ready_thread w h t ≡ true → s.made < length (script_of w t)
  call_left t s at waits ready =
      let seat : ℕ → Option Armed → Seat = λ m o. record { made = m; waits = o } in
      ltb-true s.made (length (script_of w t))
      (sym (ap (λ o. ready_by (script_of w t) (map updates_in p.fences) (seat s.made o)) waits) ∙ ready_is w h p d t s keeps at ∙ ready)

  -- the machine's place of a thread that does not wait
  pub next_is : (t : ℕ) (s : Seat) (c : Call) → slice_get p.seats t ≡ Some s → slice_get (script_of w t) s.made ≡ Some c → next_call w (state_after w h).desk t ≡ Some c
  next_is t s c at next = ap (λ (x : Place). slice_get (script_of w t) x.made) (place_is w h p (shown d.state) t s keeps.consistent at) ∙ next

  pub waits_is : (t : ℕ) (s : Seat) → slice_get p.seats t ≡ Some s → (place_of (state_after w h).desk t).waits ≡ option_map (waiting_from (map updates_in p.fences)) (option_map wait_since s.waits)
  waits_is t s at = ap (λ (x : Place). x.waits) (place_is w h p (shown d.state) t s keeps.consistent at)

  pub buffers_are : HasBuffers w d.state
  buffers_are = has_buffers w d.state keeps.consistent.world keeps.machine_is.sizes

  pub lists_count : length p.lists ≡ length w.lists
  lists_count = ap length lists_are ∙ (run_has_shape w h).desk.lists

  pub queues_count : length p.held ≡ length w.queues
  queues_count = sym (length-map p.held queued) ∙ keeps.consistent.held_are.count

  pub named_is : (t : ℕ) (s : Seat) (c : Call) → slice_get p.seats t ≡ Some s → slice_get (script_of w t) s.made ≡ Some c → is_named w c ≡ true
  named_is t s c at next = next_is_named w (state_after w h).desk t c keeps.consistent.world (next_is t s c at next)

  -- the step of a thread that waits
  pub step_awake : (t : ThreadId) (s : Seat) (a : Armed) (k : List Event) → slice_get p.seats t.0 ≡ Some s → s.waits ≡ Some a → is_ready_thread w h t.0 ≡ true →
      k ≡ h ++ event.Awake t ∷ [] → IsThreadStep w h k d.state d.state t.0
  step_awake t s a k at waits ready history = record {
    event = event.Awake t;
    of_thread = refl;
    enabled = may_awake w h p d t s a keeps at waits ready;
    words = tt;
    history = history;
    machine = refl;
  }

  -- the step of a thread that makes its next call
  pub step_call : (t : ThreadId) (s : Seat) (c : Call) (r : Reply) (k : List Event) (n : Machine) → slice_get p.seats t.0 ≡ Some s → s.waits ≡ None →
      slice_get (script_of w t.0) s.made ≡ Some c → IsReply w p.lists (map updates_in p.fences) d.state c r → k ≡ h ++ event.Call t c r ∷ [] →
      n ≡ after_call w p.lists d.state c r → IsThreadStep w h k d.state n t.0
  step_call t s c r k n at waits next answers history after = record {
    event = event.Call t c r;
    of_thread = refl;
    enabled = (
      waits_is t.0 s at ∙ ap (λ o. option_map (waiting_from (map updates_in p.fences)) (option_map wait_since o)) waits,
      next_is t.0 s c at next,
      reply_seen w h p d c r keeps answers,
    );
    words = subst (λ ls. HasWords w d.state (done w ls c).reads r) lists_are
        (tells_words w d.state (done w p.lists c).reads (reply_by w p.lists (map updates_in p.fences) c) r answers);
    history = history;
    machine = after ∙ ap (λ ls. after_call w ls d.state c r) lists_are;
  }
