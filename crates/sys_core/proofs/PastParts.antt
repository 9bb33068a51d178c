-- The parts that are those of the past: what they tell of the machine, and that each kind of step keeps them so.
use Rattle.std.proofs.Common.{ℕ, ◌≡◌, ◌+◌, ◌∙◌, sym, ap, refl, List, [], ◌∷◌, ◌++◌, length, map, Some, None, Option, Result, Ok, Err, IfOk}
use Rattle.std.proofs.lemmas.List.{length-map}
use Rattle.std.proofs.lemmas.Option.{slice_get-map}
use Rattle.std.specs.List.{slice_get}
use Rattle.std.specs.Option.{option_map}
use Rattle.dx_base.specs.Lists.{changed_at}
use Rattle.dx_base.specs.Roomy.{Roomy}
use Rattle.dx_base.specs.Effects.{At, changed_by}
use Rattle.dx_base.specs.declared.ids.ThreadId.{ThreadId}
use Rattle.dx_base.specs.declared.ids.QueueId.{QueueId}
use Rattle.dx_base.proofs.Lists.{map_changed}
use Rattle.d3d_machine.specs.declared.world.World.{World}
use Rattle.d3d_machine.specs.declared.calls.Call.{Call}
use Rattle.d3d_machine.specs.declared.calls.Reply.{Reply}
use Rattle.d3d_machine.specs.declared.events.Listed.{Listed}
use Rattle.d3d_machine.specs.declared.events.Event.{Event}
use Rattle.d3d_machine.specs.declared.events.Event.TheVariants as event
use Rattle.d3d_machine.specs.World.{IsWorld}
use Rattle.d3d_machine.specs.State.{Place, State, place_of, opening_place}
use Rattle.d3d_machine.specs.CallEffects.{does}
use Rattle.d3d_machine.specs.Effects.{changed, done, with_one, dropped, head_of}
use Rattle.d3d_machine.specs.Play.{IsRunButWords, state_after}
use Rattle.d3d_machine.specs.Fences.{operation_sets}
use Rattle.d3d_machine.specs.Past.{calls, wakes, moved, past, last_of, place_from, IsRight}
use Rattle.d3d_machine.proofs.CallEffects.{waits_done}
use Rattle.d3d_machine.proofs.Past.{past_append, state_is, places_many}
use Rattle.d3d_machine.proofs.PastPlaces.{pasts_are_right}
use Rattle.d3d_machine.proofs.Short.{operation_lists}
use Rattle.sys_core.specs.declared.parts.Seat.{Seat}
use Rattle.sys_core.specs.Parts.{updates_in, place_since, armed_or, seat_after, woken_seat}
use Rattle.sys_core.specs.Consistent.{ArePast}

-- what the parts tell of the machine

module _ (w : World) (h : List Event) (lists : List Listed) (seats : List Seat) (fences : List (List ℕ)) (are : ArePast (past w h) lists (map place_since seats) fences) where
  -- the lists are the machine's
  pub lists_now : lists ≡ (state_after w h).desk.lists
  lists_now = are.lists_are ∙ ap (λ (s : State). s.desk.lists) (state_is w h)

  -- there is a place for each thread
  pub seats_many : length seats ≡ length w.scripts
  seats_many = sym (length-map seats place_since) ∙ ap length are.places_are ∙ places_many w h

  module _ (world : IsWorld w) (run : IsRunButWords w h) where
    right : IsRight (past w h)
    right = (pasts_are_right w h world run).0

    -- the last updates of all fences are the values of the machine
    pub values_are : map last_of fences ≡ (state_after w h).desk.fences
    values_are = ap (map last_of) are.fences_are ∙ sym right.values ∙ ap (λ (s : State). s.desk.fences) (state_is w h)

    threads_are : (state_after w h).desk.threads ≡ map (place_from fences) (map place_since seats)
    threads_are =
        ap (λ (s : State). s.desk.threads) (sym (state_is w h)) ∙ right.threads
        ∙ ap (λ us. map (place_from us) (past w h).places) (sym are.fences_are) ∙ ap (map (place_from fences)) (sym are.places_are)

    -- the place of a thread is the machine's
    pub place_now : (t : ℕ) (s : Seat) → slice_get seats t ≡ Some s → place_of (state_after w h).desk t ≡ place_from fences (place_since s)
    place_now t s at =
        ap (λ ts. elim (slice_get ts t) [ None ↦ opening_place | Some x ↦ x ]) threads_are
        ∙ ap (λ (o : Option Place). elim o [ None ↦ opening_place | Some x ↦ x ])
        (slice_get-map (place_from fences) (map place_since seats) t
        ∙ ap (option_map (place_from fences)) (slice_get-map place_since seats t ∙ ap (option_map place_since) at))

-- the last updates, by fences with room
pub values_through : (fences : List (Roomy ℕ)) → map (λ u. last_of u.items) fences ≡ map last_of (map updates_in fences)
values_through [] = refl
values_through (u ∷ us) = ap (λ xs. last_of u.items ∷ xs) (values_through us)

-- an answer that is a value, is one that the value is
pub ok_same : {A E : Type 0} (res : Result A E) (a b : A) → IfOk res (λ x. x ≡ a) → a ≡ b → IfOk res (λ x. x ≡ b)
ok_same (Ok x) a b is same = is ∙ same
ok_same (Err e) a b is same = tt

-- each kind of step keeps them

seat_moves : (fences : List (List ℕ)) (o : Option (At ℕ)) (s : Seat) →
    place_since (record { made = s.made + 1; waits = armed_or fences o s.waits }) ≡ moved fences (calls o) (place_since s)
seat_moves fences None s = refl
seat_moves fences (Some x) s = refl

seats_called : (w : World) (lists : List Listed) (fences : List (List ℕ)) (c : Call) (t : ℕ) (seats : List Seat) →
    map place_since (changed_at (seat_after fences c) t seats) ≡ changed_at (moved fences (calls (done w lists c).waits)) t (map place_since seats)
seats_called w lists fences c t seats =
    map_changed place_since (seat_after fences c) (moved fences (calls (done w lists c).waits)) t seats
    (λ s. seat_moves fences (does c).waits s ∙ ap (λ o. moved fences (calls o) (place_since s)) (sym (waits_done w lists c)))

-- a call
pub past_call : (w : World) (h : List Event) (t : ThreadId) (c : Call) (r : Reply) (lists : List Listed) (seats : List Seat) (fences : List (List ℕ)) →
    ArePast (past w h) lists (map place_since seats) fences →
    ArePast (past w (h ++ event.Call t c r ∷ [])) (changed_by (changed w) (done w lists c).list lists) (map place_since (changed_at (seat_after fences c) t.0 seats)) (changed_by with_one (done w lists c).sets fences)
past_call w h t c r lists seats fences are =
    rw (seats_called w lists fences c t.0 seats, past_append w h (event.Call t c r), are.lists_are, are.places_are, are.fences_are)
    (record { lists_are = refl; places_are = refl; fences_are = refl })

-- a waking
pub past_awake : (w : World) (h : List Event) (t : ThreadId) (lists : List Listed) (seats : List Seat) (fences : List (List ℕ)) →
    ArePast (past w h) lists (map place_since seats) fences → ArePast (past w (h ++ event.Awake t ∷ [])) lists (map place_since (changed_at woken_seat t.0 seats)) fences
past_awake w h t lists seats fences are =
    rw (map_changed place_since woken_seat (moved fences wakes) t.0 seats (λ s. refl), past_append w h (event.Awake t), are.lists_are, are.places_are, are.fences_are)
    (record { lists_are = refl; places_are = refl; fences_are = refl })

-- a completion
pub past_completion : (w : World) (h : List Event) (q : QueueId) (lists : List Listed) (seats : List Seat) (fences : List (List ℕ)) →
    ArePast (past w h) lists (map place_since seats) fences →
    ArePast (past w (h ++ event.Queue q ∷ [])) lists (map place_since seats) (changed_by with_one (operation_sets (head_of (state_after w h).desk q.0)) fences)
past_completion w h q lists seats fences are =
    rw (sym (state_is w h), past_append w h (event.Queue q), are.lists_are, are.places_are, are.fences_are)
    (record { lists_are = sym (operation_lists (dropped (past w h).state.desk q.0) (head_of (past w h).state.desk q.0)); places_are = refl; fences_are = refl })
