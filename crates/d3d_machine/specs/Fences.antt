-- The updates of a fence.
use Rattle.std.specs.Prelude.{ℕ, ◌==◌, nat_le, List, [], ◌∷◌, ◌++◌, drop, Option, Some, None, Bool, if◌then◌else◌}
use Rattle.std.specs.List.{list_any}
use Rattle.dx_base.specs.Effects.{At, at}
use Rattle.d3d_machine.specs.declared.world.World.{World}
use Rattle.d3d_machine.specs.declared.events.Operation.{Operation}
use Rattle.d3d_machine.specs.declared.events.Operation.TheVariants as operation
use Rattle.d3d_machine.specs.declared.events.Event.{Event}
use Rattle.d3d_machine.specs.declared.events.Event.TheVariants as event
use Rattle.d3d_machine.specs.CallEffects.{here_of}
use Rattle.d3d_machine.specs.State.{Desk, State, first_state, value_of}
use Rattle.d3d_machine.specs.Effects.{done, after, head_of}

-- the value that an operation gives a fence, where it gives one: a signal does
abbrev pub operation_sets : Option Operation → Option (At ℕ)
operation_sets None = None
operation_sets (Some (operation.Execute commands)) = None
operation_sets (Some (operation.Signal g v)) = at g.0 v

-- the value that an event gives a fence, where it gives one: a host signal and a completed signal do
abbrev pub event_sets : World → Desk → Event → Option (At ℕ)
event_sets w d (event.Call t c r) = (done w d.lists c).sets
event_sets w d (event.Awake t) = None
event_sets w d (event.Queue q) = operation_sets (head_of d q.0)

-- the value that an event gives that fence, where it gives it one
abbrev pub update_of : World → Desk → ℕ → Event → List ℕ
update_of w d f e = here_of f (event_sets w d e)

abbrev pub updates_from : World → State → ℕ → List Event → List ℕ
updates_from w s f [] = []
updates_from w s f (e ∷ h) = update_of w s.desk f e ++ updates_from w (after w s e) f h

-- the applied updates of a fence: its starting value, then host signals and completed signals in order of the
-- history
abbrev pub applied_updates : World → List Event → ℕ → List ℕ
applied_updates w h f = value_of (first_state w).desk f ∷ updates_from w (first_state w) f h

-- a wait is met: an update that was current at its call, or a later one, is at least its value
abbrev pub is_met : List ℕ → ℕ → ℕ → Bool
is_met applied since v = list_any (λ u. nat_le v u) (drop since applied)
