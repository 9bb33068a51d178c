-- The operations that calls give a queue, and how many of them have completed.
use Rattle.std.specs.Prelude.{ℕ, ◌==◌, ◌+◌, List, [], ◌∷◌, ◌++◌, Option, None, if◌then◌else◌}
use Rattle.dx_base.specs.Effects.{At}
use Rattle.d3d_machine.specs.declared.world.World.{World}
use Rattle.d3d_machine.specs.declared.events.Operation.{Operation}
use Rattle.d3d_machine.specs.declared.events.Event.{Event}
use Rattle.d3d_machine.specs.declared.events.Event.TheVariants as event
use Rattle.d3d_machine.specs.State.{Desk, State, first_state}
use Rattle.d3d_machine.specs.CallEffects.{here_of}
use Rattle.d3d_machine.specs.Effects.{operation_given, done, after}

-- the operation that an event gives a queue, where it gives one: a call that is not refused does
abbrev pub event_gives : World → Desk → Event → Option (At Operation)
event_gives w d (event.Call t c r) = operation_given d.lists (done w d.lists c).gives
event_gives w d (event.Awake t) = None
event_gives w d (event.Queue q) = None

-- the operation that an event gives that queue, where it gives it one
abbrev pub called_by : World → Desk → ℕ → Event → List Operation
called_by w d q e = here_of q (event_gives w d e)

abbrev pub operations_from : World → State → ℕ → List Event → List Operation
operations_from w s q [] = []
operations_from w s q (e ∷ h) = called_by w s.desk q e ++ operations_from w (after w s e) q h

-- all operations that the events of a history called on a queue, in order; operation n is at place n - 1
abbrev pub operations : World → List Event → ℕ → List Operation
operations w h q = operations_from w (first_state w) q h

-- 1 where the event completes an operation of the queue
abbrev pub completions_by : ℕ → Event → ℕ
completions_by q (event.Call t c r) = 0
completions_by q (event.Awake t) = 0
completions_by q (event.Queue p) = if (p.0 == q) then 1 else 0

-- how many operations of the queue a history completed
abbrev pub counter : List Event → ℕ → ℕ
counter [] q = 0
counter (e ∷ h) q = completions_by q e + counter h q
