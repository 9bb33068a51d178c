-- A number that every step of the system but a free one makes smaller.
use Rattle.std.specs.Prelude.{ℕ, zero, suc, ◌+◌, ◌*◌, List, [], ◌∷◌, length, drop, Option, Some, None}
use Rattle.d3d_machine.specs.declared.world.World.{World}
use Rattle.d3d_machine.specs.declared.calls.Call.{Call}
use Rattle.d3d_machine.specs.declared.events.Operation.{Operation}
use Rattle.d3d_machine.specs.declared.events.Operation.TheVariants as operation
use Rattle.d3d_machine.specs.declared.events.Event.{Event}
use Rattle.dx_base.specs.Effects.{At}
use Rattle.d3d_machine.specs.CallEffects.{Task, executes, signals, does}
use Rattle.d3d_machine.specs.State.{Waiting, Place}
use Rattle.d3d_machine.specs.Play.{state_after}
use Rattle.d3d_machine.specs.Operations.{operations}
use Rattle.vk_port.specs.Left.{steps_left}
use Rattle.vk_port.specs.VkState.{VkState}
use Rattle.sys_core.specs.Steps.{submitted_of}

-- the steps of the operation that a task is, at most: a list has at most 1024 commands
abbrev pub task_weight : Task → ℕ
task_weight (executes ls) = 5 + 1024 * length ls
task_weight (signals f v) = 3

-- the steps of the operation that a call gives a queue, at most
abbrev pub given_weight : Option (At Task) → ℕ
given_weight None = 0
given_weight (Some x) = task_weight x.what

-- the steps of the wait that a call begins
abbrev pub begun_weight : Option (At ℕ) → ℕ
begun_weight None = 0
begun_weight (Some x) = 1

-- the steps that a call can cause: the call itself, and those of its operation and of its wait
abbrev pub call_weight : Call → ℕ
call_weight c = 1 + (given_weight (does c).gives + begun_weight (does c).waits)

-- the steps of an operation: its submission, the pass and the end of its batch, and its batch's commands, which
-- for an execute are two barriers and its own
abbrev pub operation_weight : Operation → ℕ
operation_weight (operation.Execute cs) = 5 + length cs
operation_weight (operation.Signal f v) = 3

-- the steps that calls can cause
abbrev pub calls_work : List Call → ℕ
calls_work [] = 0
calls_work (c ∷ cs) = call_weight c + calls_work cs

-- the steps of operations
abbrev pub operations_work : List Operation → ℕ
operations_work [] = 0
operations_work (o ∷ os) = operation_weight o + operations_work os

-- a wait ends by one step
abbrev pub wait_work : Option Waiting → ℕ
wait_work None = 0
wait_work (Some x) = 1

-- the steps that a thread can still cause: by the calls of its script that it has not made, and its waking
abbrev pub place_work : List Call → Place → ℕ
place_work script p = calls_work (drop p.made script) + wait_work p.waits

-- the steps that threads can still cause, each with its script
abbrev pub threads_work : List (List Call) → List Place → ℕ
threads_work [] places = 0
threads_work (script ∷ scripts) [] = 0
threads_work (script ∷ scripts) (p ∷ places) = place_work script p + threads_work scripts places

-- a number for each from n on, so many of them, added up
abbrev pub sum_from : (ℕ → ℕ) → ℕ → ℕ → ℕ
sum_from f n zero = 0
sum_from f n (suc k) = f n + sum_from f (n + 1) k

-- the steps of a queue's operations that are not submitted
abbrev pub queue_work : World → List Event → VkState → ℕ → ℕ
queue_work w h v q = operations_work (drop (submitted_of v q) (operations w h q))

-- the steps of all operations that are not submitted
abbrev pub held_work : World → List Event → VkState → ℕ
held_work w h v = sum_from (queue_work w h v) 0 (length w.queues)

-- no fewer than the steps that the system can still take, but for free ones: those of its threads, those of the
-- operations that are not submitted, and those that the device has left
abbrev pub work : World → List Event → VkState → ℕ
work w h v = (threads_work w.scripts (state_after w h).desk.threads + held_work w h v) + steps_left v
