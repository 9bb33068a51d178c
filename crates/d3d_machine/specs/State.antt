-- The state of the Direct3D machine.
use Rattle.std.specs.Prelude.{ℕ, List, [], slice_get, slice_index_or, map, replicate, Option, Some, None, Bool, true, false}
use Rattle.d3d_machine.specs.declared.world.World.{World}
use Rattle.d3d_machine.specs.declared.calls.Call.{Call}
use Rattle.d3d_machine.specs.declared.events.Listed.{Listed}
use Rattle.d3d_machine.specs.declared.events.ListState.{ListState}
use Rattle.d3d_machine.specs.declared.events.ListState.TheVariants.{Recording, Closed, Failed}
use Rattle.d3d_machine.specs.declared.events.Operation.{Operation}
use Rattle.d3d_machine.specs.declared.world.Resource.{Resource}
use Rattle.d3d_machine.specs.World.{words_of_resource}

-- a wait of a thread on a fence: its value, and the mark that it is met
pub record Waiting : Type 0 where
  pub fence : ℕ
  pub value : ℕ
  pub marked : Bool

-- a thread's place: how many of its calls are answered, and the wait from which it has not woken
pub record Place : Type 0 where
  pub made : ℕ
  pub waits : Option Waiting

-- all of the state but memory: each fence's value, the called and incomplete operations of each queue in
-- order, the lists with their contents, and each thread's place
pub record Desk : Type 0 where
  pub fences : List ℕ
  pub called : List (List Operation)
  pub lists : List Listed
  pub threads : List Place

-- the whole state: memory has the words of each resource
pub record State : Type 0 where
  pub desk : Desk
  pub memory : List (List ℕ)

-- a list as it is declared: closed and empty
abbrev pub declared_list : Listed
declared_list = record { state = Closed; allocator = None; commands = []; error = None }

-- a thread before its first call
abbrev pub opening_place : Place
opening_place = record { made = 0; waits = None }

-- the words of a resource at first: zeros
abbrev pub zeros : Option Resource → List ℕ
zeros None = []
zeros (Some b) = replicate (words_of_resource b) 0

abbrev pub first_desk : World → Desk
first_desk w = record {
  fences = w.fences;
  called = map (λ _. []) w.queues;
  lists = map (λ _. declared_list) w.lists;
  threads = map (λ _. opening_place) w.scripts;
}

-- the state before any event
abbrev pub first_state : World → State
first_state w = record { desk = first_desk w; memory = map zeros w.resources }

-- the list of that id; a list as declared where there is none
abbrev pub list_of : List Listed → ℕ → Listed
list_of lists l = elim (slice_get lists l) [ None ↦ declared_list | Some x ↦ x ]

-- the place of that thread
abbrev pub place_of : Desk → ℕ → Place
place_of d t = elim (slice_get d.threads t) [ None ↦ opening_place | Some x ↦ x ]

-- the called and incomplete operations of that queue
abbrev pub called_of : Desk → ℕ → List Operation
called_of d q = elim (slice_get d.called q) [ None ↦ [] | Some x ↦ x ]

-- the value of that fence
abbrev pub value_of : Desk → ℕ → ℕ
value_of d f = elim (slice_get d.fences f) [ None ↦ 0 | Some v ↦ v ]

-- the words of that resource
abbrev pub words_at : List (List ℕ) → ℕ → List ℕ
words_at m r = slice_index_or m r []

-- the calls of that thread
abbrev pub script_of : World → ℕ → List Call
script_of w t = elim (slice_get w.scripts t) [ None ↦ [] | Some cs ↦ cs ]

-- the next call of that thread, where its script has one
abbrev pub next_call : World → Desk → ℕ → Option Call
next_call w d t = slice_get (script_of w t) (place_of d t).made

abbrev pub is_recording_state : ListState → Bool
is_recording_state Recording = true
is_recording_state Closed = false
is_recording_state Failed = false

abbrev pub is_closed_state : ListState → Bool
is_closed_state Recording = false
is_closed_state Closed = true
is_closed_state Failed = false

abbrev pub is_recording : Listed → Bool
is_recording x = is_recording_state x.state
