-- What happens at the events of a history, as clocks and rules see it. Each call has its row here, and no other definition of the
-- judge has one for each call.
use Rattle.std.specs.Prelude.{ℕ, List, [], ◌∷◌, map, length, ◌/◌, Option, Some, None}
use Rattle.dx_base.specs.declared.hresult.Hresult.{Hresult}
use Rattle.d3d_machine.specs.declared.calls.Call.{Call}
use Rattle.d3d_machine.specs.declared.calls.Call.TheVariants as call
use Rattle.d3d_machine.specs.declared.calls.Reply.{Reply}
use Rattle.d3d_machine.specs.declared.events.Event.{Event}
use Rattle.d3d_machine.specs.declared.events.Event.TheVariants as event
use Rattle.d3d_machine.specs.declared.events.Operation.{Operation}
use Rattle.d3d_machine.specs.declared.events.Operation.TheVariants as operation
use Rattle.d3d_machine.specs.declared.world.World.{World}
use Rattle.d3d_machine.specs.State.{Desk, State, first_state}
use Rattle.d3d_machine.specs.Replies.{refusal}
use Rattle.d3d_machine.specs.Effects.{after, gathered}
use Rattle.d3d_judge.specs.Commands.{Command, Range, bytes_of, command_of}

-- what a call gives a queue to do
pub data Work : Type 0 where
  Executes : (commands : List Command) → Work
  Signals : (fence value : ℕ) → Work
  Waits : (fence value : ℕ) → Work

-- what a call does
pub data Deed : Type 0 where
  Gives : (queue : ℕ) → (what : Work) → Deed  -- it gives a queue work
  SetsFence : (fence value : ℕ) → Deed  -- it sets a fence's value at once
  WaitsFor : (fence value : ℕ) → Deed  -- its thread waits
  Asks : (fence : ℕ) → Deed  -- it reads a fence's value
  Stores : (range : Range) → Deed  -- it writes words of a buffer
  Loads : (range : Range) → Deed  -- it reads words of a buffer
  Nothing : Deed  -- none of these

-- a thread's call, the waking of a thread, or the completion of a queue's oldest work
pub data Happening : Type 0 where
  Calls : (thread : ℕ) → (what : Deed) → Happening
  Wakes : (thread : ℕ) → Happening
  Completes : (queue : ℕ) → Happening

-- what a call does that is not refused
abbrev pub deed_of : Desk → Call → Deed
deed_of d (call.Recording l what) = Nothing
deed_of d (call.Close l) = Nothing
deed_of d (call.Reset l a) = Nothing
deed_of d (call.Execute q ls) = Gives q.0 (Executes (map (λ x. command_of x.what) (gathered d.lists (map (λ l. l.0) ls))))
deed_of d (call.Signal q f v) = Gives q.0 (Signals f.0 v)
deed_of d (call.HostSignal f v) = SetsFence f.0 v
deed_of d (call.HostWait f v) = WaitsFor f.0 v
deed_of d (call.Value f) = Asks f.0
deed_of d (call.Write b offset ws) = Stores (record { resource = b.0; sub = 0; first = offset / 4; words = length ws })
deed_of d (call.Read b offset bytes) = Loads (bytes_of b.0 offset bytes)

-- an operation of a queue as work
abbrev pub work_of : Operation → Work
work_of (operation.Execute commands) = Executes (map (λ x. command_of x.what) commands)
work_of (operation.Signal f v) = Signals f.0 v

-- a refused call does nothing
abbrev pub unless_refused : Option Hresult → Deed → Deed
unless_refused None what = what
unless_refused (Some e) what = Nothing

-- what happens at an event
abbrev pub happening_of : World → Desk → Event → Happening
happening_of w d (event.Call t c r) = Calls t.0 (unless_refused (refusal w d c) (deed_of d c))
happening_of w d (event.Awake t) = Wakes t.0
happening_of w d (event.Queue q) = Completes q.0

abbrev pub happenings_from : World → State → List Event → List Happening
happenings_from w s [] = []
happenings_from w s (e ∷ h) = happening_of w s.desk e ∷ happenings_from w (after w s e) h

-- what happens along a history, in order
abbrev pub happenings : World → List Event → List Happening
happenings w h = happenings_from w (first_state w) h

-- an event with another reply
abbrev pub with_reply : Reply → Event → Event
with_reply r (event.Call t c old) = event.Call t c r
with_reply r (event.Awake t) = event.Awake t
with_reply r (event.Queue q) = event.Queue q
