-- The moments of a run of rounds: where the one thread stands, and what the one queue has yet to complete.
use Rattle.std.specs.Prelude.{ℕ, zero, suc, ◌≡◌, ◌≤◌, ◌<◌, ◌⊎◌, List, [], ◌∷◌, ◌++◌, length, drop, slice_get, Option, Some, None, Bool, true, false}
use Rattle.std.specs.List.{flat_map}
use Rattle.d3d_machine.specs.declared.world.World.{World}
use Rattle.d3d_machine.specs.declared.calls.Call.{Call}
use Rattle.d3d_machine.specs.declared.calls.Record.{Record}
use Rattle.d3d_machine.specs.declared.calls.Record.TheVariants.{Copy}
use Rattle.d3d_machine.specs.declared.events.Listed.{Listed}
use Rattle.d3d_machine.specs.declared.events.ListState.{ListState}
use Rattle.d3d_machine.specs.declared.events.ListState.TheVariants as state
use Rattle.d3d_machine.specs.declared.events.Operation.{Operation}
use Rattle.d3d_machine.specs.declared.events.Operation.TheVariants as operation
use Rattle.d3d_machine.specs.State.{Waiting, Desk, declared_list, script_of, place_of, called_of}
use Rattle.d3d_machine.specs.Effects.{begun}
use Rattle.d3d_machine.specs.Play.{IsFinished}
use Rattle.sys_core.specs.Steps.{is_ready_place}
use Rattle.trace_runner.specs.Rounds.{Round, calls_of, AreRising}

-- what the thread did last in a round: nothing, or one of its calls, or it has woken behind its wait
pub data Stage : Type 0 where
  Opening : Stage
  Written : Stage
  Begun : Stage
  Recorded : Stage
  Ended : Stage
  Executed : Stage
  Signalled : Stage
  Waits : Stage
  Woken : Stage

-- what a round has given the queue: nothing, its execute, or its execute and its signal
pub data Given : Type 0 where
  Nothing : Given
  Copies : Given
  Signals : Given

-- how many operations those are
abbrev pub most : Given → ℕ
most Nothing = 0
most Copies = 1
most Signals = 2

-- the list that is recorded: as it was between rounds, begun, or with the copy in that state
pub data Content : Type 0 where
  between : Content
  started : Content
  copied_in : ListState → Content

-- a stage: how many calls of the round are made, what they gave the queue, how many operations of the round are complete at
-- least, the list, whether the thread waits, and the stage behind the next call, where that is not the round's last
pub record Row : Type 0 where
  pub made : ℕ
  pub given : Given
  pub least : ℕ
  pub list : Content
  pub waits : Bool
  pub next : Option Stage

-- the table of stages
abbrev pub row : Stage → Row
row Opening = record { made = 0; given = Nothing; least = 0; list = between; waits = false; next = Some Written }
row Written = record { made = 1; given = Nothing; least = 0; list = between; waits = false; next = Some Begun }
row Begun = record { made = 2; given = Nothing; least = 0; list = started; waits = false; next = Some Recorded }
row Recorded = record { made = 3; given = Nothing; least = 0; list = copied_in state.Recording; waits = false; next = Some Ended }
row Ended = record { made = 4; given = Nothing; least = 0; list = copied_in state.Closed; waits = false; next = Some Executed }
row Executed = record { made = 5; given = Copies; least = 0; list = copied_in state.Closed; waits = false; next = Some Signalled }
row Signalled = record { made = 6; given = Signals; least = 0; list = copied_in state.Closed; waits = false; next = Some Waits }
row Waits = record { made = 7; given = Signals; least = 0; list = copied_in state.Closed; waits = true; next = Some Waits }
row Woken = record { made = 7; given = Signals; least = 2; list = copied_in state.Closed; waits = false; next = None }

-- a moment: how many rounds are over, the fence's value behind them, the rounds that are not over, the stage of the first
-- of these, and how many of its operations are complete
pub record Moment : Type 0 where
  pub number : ℕ
  pub before : ℕ
  pub rounds : List Round
  pub stage : Stage
  pub done : ℕ

-- the copy of a round
abbrev pub copied : Record
copied = Copy (record { 0 = 1 }) 0 (record { 0 = 0 }) 0 16

-- the execute of a round
abbrev pub execute_copy : Operation
execute_copy = operation.Execute ((record { what = copied }) ∷ [])

-- the calls that are left of rounds, of the first of which so many are made
abbrev pub left_of : ℕ → List Round → List Call
left_of made [] = []
left_of made (r ∷ rs) = drop made (calls_of r) ++ flat_map calls_of rs

-- the calls that the thread has left
abbrev pub left_at : Moment → List Call
left_at m = left_of (row m.stage).made m.rounds

-- the value that the round signals
abbrev pub round_value : List Round → ℕ
round_value [] = 0
round_value (r ∷ rs) = r.value

-- the round's signal is complete where two operations are
abbrev pub is_through : ℕ → Bool
is_through zero = false
is_through (suc zero) = false
is_through (suc (suc d)) = true

-- the fence's value, where so many operations of the round are complete
abbrev pub value_in : ℕ → ℕ → ℕ → ℕ
value_in zero before v = before
value_in (suc zero) before v = before
value_in (suc (suc d)) before v = v

abbrev pub value_at : Moment → ℕ
value_at m = value_in m.done m.before (round_value m.rounds)

-- the called and incomplete operations
abbrev pub in_flight : Given → ℕ → ℕ → List Operation
in_flight Nothing d v = []
in_flight Copies zero v = execute_copy ∷ []
in_flight Copies (suc d) v = []
in_flight Signals zero v = execute_copy ∷ operation.Signal (record { 0 = 0 }) v ∷ []
in_flight Signals (suc zero) v = operation.Signal (record { 0 = 0 }) v ∷ []
in_flight Signals (suc (suc d)) v = []

abbrev pub called_at : Moment → List Operation
called_at m = in_flight (row m.stage).given m.done (round_value m.rounds)

-- the list with the copy, in that state
abbrev pub list_copied : ListState → Listed
list_copied s = record { state = s; allocator = Some (record { 0 = 0 }); commands = (record { what = copied }) ∷ []; error = None }

-- the list between rounds: it was recorded in the round before
abbrev pub list_between : ℕ → Listed
list_between zero = declared_list
list_between (suc number) = list_copied state.Closed

abbrev pub list_in : Content → ℕ → Listed
list_in between number = list_between number
list_in started number = begun 0
list_in (copied_in s) number = list_copied s

-- the thread's wait
abbrev pub wait_in : Bool → ℕ → ℕ → Option Waiting
wait_in true d v = Some (record { fence = 0; value = v; marked = is_through d })
wait_in false d v = None

abbrev pub waits_at : Moment → Option Waiting
waits_at m = wait_in (row m.stage).waits m.done (round_value m.rounds)

-- the thread's next call, where it does not wait and has one
abbrev pub next_in : Bool → List Call → Option Call
next_in true cs = None
next_in false cs = slice_get cs 0

abbrev pub next_at : Moment → Option Call
next_at m = next_in (row m.stage).waits (left_at m)

-- the desk where the thread has made that many calls, with these operations, the fence's value, the list and the wait
abbrev pub desk_with : ℕ → ℕ → List Operation → Listed → Option Waiting → Desk
desk_with n value os list wait = record {
  fences = value ∷ [];
  called = os ∷ [];
  lists = list ∷ declared_list ∷ [];
  threads = (record { made = n; waits = wait }) ∷ [];
}

-- the desk at a moment, where the thread has made that many calls
abbrev pub desk_at : ℕ → Moment → Desk
desk_at n m = desk_with n (value_at m) (called_at m) (list_in (row m.stage).list m.number) (waits_at m)

-- the round is over: the next one begins
abbrev pub over_rounds : List Round → List Round
over_rounds [] = []
over_rounds (r ∷ rs) = rs

abbrev pub next_round : Moment → Moment
next_round m = record { number = suc m.number; before = round_value m.rounds; rounds = over_rounds m.rounds; stage = Opening; done = 0 }

abbrev pub after_next : Option Stage → Moment → Moment
after_next None m = next_round m
after_next (Some s) m = record m { stage = s }

-- the moment behind the next call
abbrev pub after_call : Moment → Moment
after_call m = after_next (row m.stage).next m

-- the moment behind the completion of the oldest operation
abbrev pub after_queue : Moment → Moment
after_queue m = record m { done = suc m.done }

-- the moment behind the thread's waking
abbrev pub after_awake : Moment → Moment
after_awake m = record m { stage = Woken }

-- where no round is left, none is begun
abbrev pub IsStageOf : List Round → Stage → Type 0
IsStageOf [] s = s ≡ Opening
IsStageOf (r ∷ rs) s = Unit {0}

-- as many operations are complete as can be at the stage, and the values rise from that of the fence before the round
pub record IsMoment (m : Moment) : Type 0 where
  pub least : (row m.stage).least ≤ m.done
  pub most_done : m.done ≤ most (row m.stage).given
  pub rising : AreRising m.before m.rounds
  pub some : IsStageOf m.rounds m.stage

-- a run goes on: all is finished, or a thread is ready, or a queue has an operation that is not complete
abbrev pub GoesOn : World → Desk → Type 0
GoesOn w d =
    IsFinished w d
    ⊎ (((t : ℕ) × (t < length w.scripts) × (is_ready_place (script_of w t) (place_of d t) ≡ true))
    ⊎ ((q : ℕ) × (q < length w.queues) × (0 < length (called_of d q))))
