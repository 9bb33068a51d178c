-- The steps of the machine: the event that each thread and each queue has next, where it has one.
use Rattle.std.specs.Prelude.{ℕ, nat_lt, length, Option, Some, None, Bool, true, false}
use Rattle.dx_base.specs.declared.ids.QueueId.{QueueId}
use Rattle.dx_base.specs.declared.ids.ThreadId.{ThreadId}
use Rattle.d3d_machine.specs.declared.world.World.{World}
use Rattle.d3d_machine.specs.declared.calls.Call.{Call}
use Rattle.d3d_machine.specs.declared.events.Event.{Event}
use Rattle.d3d_machine.specs.declared.events.Event.TheVariants as event
use Rattle.d3d_machine.specs.State.{Waiting, Desk, State, place_of, next_call, called_of}
use Rattle.d3d_machine.specs.Replies.{reply_of}
use Rattle.d3d_machine.specs.Effects.{done, desk_by, memory_by, woken, after}

-- the event of a thread that makes its next call, where its script has one
abbrev pub call_step : World → State → ThreadId → Option Call → Option Event
call_step w s t None = None
call_step w s t (Some c) = Some (event.Call t c (reply_of w s c))

abbrev pub awake_if : Bool → ThreadId → Option Event
awake_if true t = Some (event.Awake t)
awake_if false t = None

abbrev pub woken_if : Bool → ℕ → Desk → Desk
woken_if true t d = woken t d
woken_if false t d = d

abbrev pub place_step : World → State → ThreadId → Option Waiting → Option Event
place_step w s t None = call_step w s t (next_call w s.desk t.0)
place_step w s t (Some x) = awake_if x.marked t

-- the event of a thread's step, where it is enabled: its next call where it does not wait, and its waking where
-- its wait is met
abbrev pub thread_step : World → State → ThreadId → Option Event
thread_step w s t = place_step w s t (place_of s.desk t.0).waits

abbrev pub queue_if : Bool → QueueId → Option Event
queue_if true q = Some (event.Queue q)
queue_if false q = None

-- the event of a queue's step, where it is enabled: the queue has an operation
abbrev pub queue_step : State → QueueId → Option Event
queue_step s q = queue_if (nat_lt 0 (length (called_of s.desk q.0))) q

-- the state after a step; where the step is not enabled, nothing changes
abbrev pub after_step : World → State → Option Event → State
after_step w s None = s
after_step w s (Some e) = after w s e

-- the state after a call, but for the count of the thread's calls
abbrev pub served : World → State → ℕ → Call → State
served w s t c = record { desk = desk_by w s.desk t (done w s.desk.lists c); memory = memory_by (done w s.desk.lists c).stores s.memory }
