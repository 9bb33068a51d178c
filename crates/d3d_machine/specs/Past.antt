-- What a history leaves, as one value: a fold over its events.
use Rattle.std.specs.Prelude.{ℕ, ◌≡◌, ◌-◌, ◌+◌, nat_lt, List, [], ◌∷◌, length, map, take, slice_get, slice_index_or, Option, Some, None, Bool, true}
use Rattle.std.specs.List.{list_all}
use Rattle.std.specs.Option.{option_map}
use Rattle.dx_base.specs.Effects.{At, at, changed_by}
use Rattle.dx_base.specs.Each.{Each}
use Rattle.dx_base.specs.declared.kinds.ListType.{ListType}
use Rattle.d3d_machine.specs.declared.world.World.{World}
use Rattle.d3d_machine.specs.declared.events.Operation.{Operation}
use Rattle.d3d_machine.specs.declared.events.Event.{Event}
use Rattle.d3d_machine.specs.declared.events.Event.TheVariants as event
use Rattle.d3d_machine.specs.World.{IsWorld}
use Rattle.d3d_machine.specs.State.{Waiting, Place, Desk, State, first_state}
use Rattle.d3d_machine.specs.Effects.{with_one, done, after}
use Rattle.d3d_machine.specs.Play.{IsRunButWords, state_after}
use Rattle.d3d_machine.specs.Fences.{event_sets, is_met}
use Rattle.d3d_machine.specs.CallEffects.{here_of}
use Rattle.d3d_machine.specs.Operations.{event_gives, operations, counter}

-- a wait of a thread on a fence, with the place among the fence's updates of the one that was current at its call
pub record WaitSince : Type 0 where
  pub fence : ℕ
  pub value : ℕ
  pub since : ℕ

-- a thread's place: how many of its calls are answered, and the wait from which it has not woken
pub record PlaceSince : Type 0 where
  pub made : ℕ
  pub waits : Option WaitSince

-- how a thread's place moves: one more call, which may begin a wait on a fence, or its waking
pub data Move : Type 0 where
  calls : Option (At ℕ) → Move
  wakes : Move

-- how an event moves a thread
abbrev pub event_moves : World → Desk → Event → Option (At Move)
event_moves w d (event.Call t c r) = at t.0 (calls (done w d.lists c).waits)
event_moves w d (event.Awake t) = at t.0 wakes
event_moves w d (event.Queue q) = None

-- the completion of an event
abbrev pub event_completes : Event → Option (At ℕ)
event_completes (event.Call t c r) = None
event_completes (event.Awake t) = None
event_completes (event.Queue q) = at q.0 1

-- an operation with the place of its call in the history, counted from 0
pub record CalledAt : Type 0 where
  pub call : ℕ
  pub operation : Operation

-- one more operation, called by the event of that place
abbrev pub with_called : ℕ → Operation → List CalledAt → List CalledAt
with_called k o os = with_one (record { call = k; operation = o }) os

-- the updates of that fence
abbrev pub updates_at : List (List ℕ) → ℕ → List ℕ
updates_at us f = slice_index_or us f []

abbrev pub begun_wait : List (List ℕ) → Option (At ℕ) → Option WaitSince → Option WaitSince
begun_wait us None o = o
begun_wait us (Some x) o = Some (record { fence = x.place; value = x.what; since = length (updates_at us x.place) - 1 })

-- a place after a move: a wait keeps the place of the update that is current
abbrev pub moved : List (List ℕ) → Move → PlaceSince → PlaceSince
moved us (calls o) s = record { made = s.made + 1; waits = begun_wait us o s.waits }
moved us wakes s = record s { waits = None }

-- the state, each fence's applied updates in order, each thread's place, each queue's operations in order with the places of
-- their calls, how many of each queue's have completed, and how many events there were
pub record Past : Type 0 where
  pub state : State
  pub updates : List (List ℕ)
  pub places : List PlaceSince
  pub operations : List (List CalledAt)
  pub completed : List ℕ
  pub events : ℕ

-- a thread's place before its first call
abbrev pub first_place : PlaceSince
first_place = record { made = 0; waits = None }

-- what no event leaves
abbrev pub first_past : World → Past
first_past w = record {
  state = first_state w;
  updates = map (λ v. v ∷ []) w.fences;
  places = map (λ _. first_place) w.scripts;
  operations = map (λ _. []) w.queues;
  completed = map (λ _. 0) w.queues;
  events = 0;
}

-- what is left after one event more
abbrev pub after_past : World → Past → Event → Past
after_past w p e = record {
  state = after w p.state e;
  updates = changed_by with_one (event_sets w p.state.desk e) p.updates;
  places = changed_by (moved p.updates) (event_moves w p.state.desk e) p.places;
  operations = changed_by (with_called p.events) (event_gives w p.state.desk e) p.operations;
  completed = changed_by (λ n m. m + n) (event_completes e) p.completed;
  events = p.events + 1;
}

abbrev pub past_from : World → Past → List Event → Past
past_from w p [] = p
past_from w p (e ∷ h) = past_from w (after_past w p e) h

-- what a history leaves
abbrev pub past : World → List Event → Past
past w h = past_from w (first_past w) h

-- the last of a fence's updates; 0 where there is none
abbrev pub last_of : List ℕ → ℕ
last_of us = slice_index_or us (length us - 1) 0

-- a wait, marked where an update from its place on suffices
abbrev pub waiting_from : List (List ℕ) → WaitSince → Waiting
waiting_from us a = record { fence = a.fence; value = a.value; marked = is_met (updates_at us a.fence) a.since a.value }

abbrev pub place_from : List (List ℕ) → PlaceSince → Place
place_from us s = record { made = s.made; waits = option_map (waiting_from us) s.waits }

-- a wait's place is that of an applied update
abbrev pub is_behind : List (List ℕ) → Option WaitSince → Bool
is_behind us None = true
is_behind us (Some a) = nat_lt a.since (length (updates_at us a.fence))

-- the places and the updates tell the machine's threads and fences
pub record IsRight (p : Past) : Type 0 where
  pub threads : p.state.desk.threads ≡ map (place_from p.updates) p.places
  pub behind : list_all (λ s. is_behind p.updates s.waits) p.places ≡ true
  pub values : p.state.desk.fences ≡ map last_of p.updates
  pub filled : list_all (λ us. nat_lt 0 (length us)) p.updates ≡ true

-- in a run of a valid world, also but for words, the past tells the machine's threads and fences
abbrev pub PastsAreRight : Type 0
PastsAreRight = (w : World) (h : List Event) → IsWorld w → IsRunButWords w h → IsRight (past w h) × ((past w h).state ≡ state_after w h)

-- an operation of that queue, with the place of the event of a history that gave it to the queue
pub record IsCalledAt (w : World) (h : List Event) (q : ℕ) (x : CalledAt) : Type 0 where
  pub event : Event
  pub there : slice_get h x.call ≡ Some event
  pub gives : here_of q (event_gives w (state_after w (take x.call h)).desk event) ≡ x.operation ∷ []

-- the past has the operations that a history called on each queue of the world, each with the place of its call, and how
-- many of them the history completed
pub record PastsHaveOperations : Type 0 where
  pub operations : (w : World) (h : List Event) (q : ℕ) (t : ListType) → slice_get w.queues q ≡ Some t →
      slice_get (map (λ os. map (λ x. x.operation) os) (past w h).operations) q ≡ Some (operations w h q)
  pub calls : (w : World) (h : List Event) (q : ℕ) (os : List CalledAt) → slice_get (past w h).operations q ≡ Some os → Each (IsCalledAt w h q) os
  pub completed : (w : World) (h : List Event) (q : ℕ) (t : ListType) → slice_get w.queues q ≡ Some t → slice_get (past w h).completed q ≡ Some (counter h q)
