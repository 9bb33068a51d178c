-- The words of the device's buffers with what it has yet to do, and the machine's memory with what it has yet to complete.
use Rattle.std.specs.Prelude.{ℕ, ◌≡◌, List, [], ◌∷◌, ◌++◌, drop, Option, Some, None, Bool, true, false, is_some, ◌||◌}
use Rattle.std.specs.List.{list_all}
use Rattle.dx_base.specs.declared.hresult.Hresult.{Hresult}
use Rattle.d3d_machine.specs.declared.world.World.{World}
use Rattle.d3d_machine.specs.declared.calls.Call.{Call}
use Rattle.d3d_machine.specs.World.{HasOneQueueAtMost}
use Rattle.d3d_machine.specs.declared.calls.Record.{Record}
use Rattle.d3d_machine.specs.declared.calls.Record.TheVariants.{Copy}
use Rattle.d3d_machine.specs.declared.world.Resource.{Resource}
use Rattle.d3d_machine.specs.declared.world.Resource.TheVariants.{Buffer}
use Rattle.d3d_machine.specs.CallEffects.{Change, records, closes, fails, begins, does}
use Rattle.dx_base.specs.Effects.{At}
use Rattle.d3d_machine.specs.declared.events.Operation.{Operation}
use Rattle.d3d_machine.specs.declared.events.Event.{Event}
use Rattle.d3d_machine.specs.declared.events.Event.TheVariants as event
use Rattle.d3d_machine.specs.State.{State, first_state, called_of}
use Rattle.d3d_machine.specs.Replies.{refusal}
use Rattle.d3d_machine.specs.Effects.{after, memory_after_operation}
use Rattle.d3d_machine.specs.Play.{IsRun, state_after}
use Rattle.d3d_machine.specs.Operations.{operations, counter}
use Rattle.vk_types.specs.declared.commands.VkCommand.{VkCommand}
use Rattle.vk_port.specs.declared.lanes.Running.{Running}
use Rattle.vk_port.specs.After.{after_command}
use Rattle.vk_port.specs.Enabled.{undone}
use Rattle.vk_port.specs.Machine.{shown}
use Rattle.vk_sync_rules.specs.VkState.{VkState as Machine}
use Rattle.vk_port.specs.Reads.{AreKnown}
use Rattle.vk_port.specs.Settled.{IsSettled}
use Rattle.vk_port.specs.VkState.{VkState, lane_of}
use Rattle.sys_core.specs.InOrder.{is_single, are_in_order}
use Rattle.sys_core.specs.Lowering.{lowered_commands}
use Rattle.sys_core.specs.Memory.{memory_of}
use Rattle.sys_core.specs.Steps.{submitted_of}

-- the words after commands in order
abbrev pub run_commands : List VkCommand → List (List ℕ) → List (List ℕ)
run_commands [] words = words
run_commands (c ∷ cs) words = run_commands cs (after_command c words)

-- the commands of batches that are not done, in order
abbrev pub batches_undone : List Running → List VkCommand
batches_undone [] = []
batches_undone (r ∷ rs) = undone r ++ batches_undone rs

-- the commands of the batches of operations, in order
abbrev pub held_commands : World → List Operation → List VkCommand
held_commands w [] = []
held_commands w (o ∷ os) = lowered_commands w o ++ held_commands w os

-- the memory after operations in order
abbrev pub memory_ahead : List Operation → List (List ℕ) → List (List ℕ)
memory_ahead [] m = m
memory_ahead (o ∷ os) m = memory_ahead os (memory_after_operation m (Some o))

-- words, after the device's commands that are not done, and after the operations that are not submitted, are the machine's
-- memory after each called operation that is not complete
pub record AreAhead (w : World) (h : List Event) (v : VkState) (words : List (List ℕ)) : Type 0 where
  pub ahead : memory_ahead (drop (submitted_of v 0) (operations w h 0)) (memory_of w (run_commands (batches_undone (lane_of v 0).batches) words))
      ≡ memory_ahead (drop (counter h 0) (operations w h 0)) (state_after w h).memory

-- the number in each word of the device's buffers is known, and these words are so
pub record IsAhead (w : World) (h : List Event) (m : Machine) : Type 0 where
  pub words : List (List ℕ)
  pub known : AreKnown m words
  pub are : AreAhead w h (shown m) words

-- no called operation is incomplete
pub record IsQuiet (s : State) : Type 0 where
  pub none_called : (q : ℕ) → called_of s.desk q ≡ []

-- a call reads or writes a buffer
abbrev pub is_access : Call → Bool
is_access c = is_some (does c).reads || is_some (does c).stores

-- a call reads or writes a buffer, and is not refused
abbrev pub is_good_access : Option Hresult → Call → Bool
is_good_access None c = is_access c
is_good_access (Some e) c = false

-- an event is such a call
abbrev pub is_host_access : World → State → Event → Bool
is_host_access w s (event.Call t c r) = is_good_access (refusal w s.desk c) c
is_host_access w s (event.Awake t) = false
is_host_access w s (event.Queue q) = false

-- from a state on, each host access comes only where no called operation is incomplete
abbrev pub AreQuietFrom : World → State → List Event → Type 0
AreQuietFrom w s [] = Unit {0}
AreQuietFrom w s (e ∷ h) = ((is_host_access w s e ≡ true) → IsQuiet s) × AreQuietFrom w (after w s e) h

-- in a history, each host access comes only where no called operation is incomplete
abbrev pub AreHostAccessesQuiet : World → List Event → Type 0
AreHostAccessesQuiet w h = AreQuietFrom w (first_state w) h

-- each called operation has at most one command
abbrev pub AreSingle : World → List Event → Type 0
AreSingle w h = (q : ℕ) → list_all is_single (operations w h q) ≡ true

-- a resource is a buffer, where it lives
abbrev pub is_buffer : Option Resource → Bool
is_buffer None = true
is_buffer (Some (Buffer home words)) = true

-- a command copies words of a buffer into a buffer
abbrev pub copies_buffer : Record → Bool
copies_buffer (Copy d doff s soff bytes) = true

-- a change of a list records no other command
abbrev pub changes_by_copies : Change → Bool
changes_by_copies (records what) = copies_buffer what
changes_by_copies closes = true
changes_by_copies fails = true
changes_by_copies (begins a) = true

abbrev pub lists_copies : Option (At Change) → Bool
lists_copies None = true
lists_copies (Some x) = changes_by_copies x.what

-- a call records no other command than a copy of a buffer
abbrev pub records_copies : Call → Bool
records_copies c = lists_copies (does c).list

-- a world of buffers: it has one queue at most, its resources are buffers, and its lists record copies of buffers alone
pub record IsOfBuffers (w : World) : Type 0 where
  pub queues : HasOneQueueAtMost w
  pub resources : list_all is_buffer w.resources ≡ true
  pub records_alone : list_all (λ script. list_all records_copies script) w.scripts ≡ true

-- a history of a world of buffers is calm: host accesses come only where no called operation is incomplete, and each
-- called operation has at most one command
pub record IsCalm (w : World) (h : List Event) : Type 0 where
  pub world : IsOfBuffers w
  pub quiet : AreHostAccessesQuiet w h
  pub single : AreSingle w h

-- a calm history is a run with its words: those of the device are known, its batches are done in order, and its queue is
-- settled
pub record IsWhole (w : World) (h : List Event) (m : Machine) : Type 0 where
  pub run : IsCalm w h → IsRun w h
  pub words : IsCalm w h → IsAhead w h m
  pub in_order : IsCalm w h → are_in_order (lane_of (shown m) 0).batches ≡ true
  pub settled : IsCalm w h → IsSettled m 0
