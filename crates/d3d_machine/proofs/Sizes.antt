-- The number of words of each resource never changes.
use Rattle.std.proofs.Common.{ℕ, zero, suc, ◌≡◌, ◌∙◌, ap, refl, List, [], ◌∷◌, length, map, Some, None, Option, ◌/◌}
use Rattle.dx_base.specs.Lists.{changed_at, put, range_of}
use Rattle.dx_base.specs.Effects.{At}
use Rattle.dx_base.proofs.Lists.{map_changed, length_put}
use Rattle.d3d_machine.specs.declared.world.World.{World}
use Rattle.d3d_machine.specs.declared.calls.Record.{Record}
use Rattle.d3d_machine.specs.declared.calls.Record.TheVariants.{Copy}
use Rattle.d3d_machine.specs.declared.events.Command.{Command}
use Rattle.d3d_machine.specs.declared.events.Operation.{Operation}
use Rattle.d3d_machine.specs.declared.events.Operation.TheVariants as operation
use Rattle.d3d_machine.specs.declared.events.Event.{Event}
use Rattle.d3d_machine.specs.declared.events.Event.TheVariants as event
use Rattle.d3d_machine.specs.State.{State, first_state, words_at, zeros}
use Rattle.d3d_machine.specs.Effects.{after_record, after_commands, done, memory_by, memory_after_operation, memory_after, head_of, after, after_all}
use Rattle.d3d_machine.specs.Play.{state_after}

unchanged : (k : ℕ) (ns : List ℕ) → changed_at (λ n. n) k ns ≡ ns
unchanged k [] = refl
unchanged zero (n ∷ ns) = refl
unchanged (suc k) (n ∷ ns) = ap (λ t. n ∷ t) (unchanged k ns)

-- words put into one resource
pub sizes_put : (first : ℕ) (new : List ℕ) (k : ℕ) (m : List (List ℕ)) → map length (changed_at (put first new) k m) ≡ map length m
sizes_put first new k m = map_changed length (put first new) (λ n. n) k m (length_put first new) ∙ unchanged k (map length m)

sizes_record : (r : Record) (m : List (List ℕ)) → map length (after_record r m) ≡ map length m
sizes_record (Copy d doff s soff bytes) m = sizes_put (doff / 4) (range_of (soff / 4) (bytes / 4) (words_at m s.0)) d.0 m

sizes_commands : (cs : List Command) (m : List (List ℕ)) → map length (after_commands cs m) ≡ map length m
sizes_commands [] m = refl
sizes_commands (c ∷ cs) m = sizes_commands cs (after_record c.what m) ∙ sizes_record c.what m

-- after words were stored
pub sizes_stored : (o : Option (At (ℕ × List ℕ))) (m : List (List ℕ)) → map length (memory_by o m) ≡ map length m
sizes_stored None m = refl
sizes_stored (Some x) m = sizes_put x.what.0 x.what.1 x.place m

sizes_operation : (o : Option Operation) (m : List (List ℕ)) → map length (memory_after_operation m o) ≡ map length m
sizes_operation None m = refl
sizes_operation (Some (operation.Execute cs)) m = sizes_commands cs m
sizes_operation (Some (operation.Signal f v)) m = refl

sizes_event : (w : World) (s : State) (e : Event) → map length (memory_after w s e) ≡ map length s.memory
sizes_event w s (event.Call t c r) = sizes_stored (done w s.desk.lists c).stores s.memory
sizes_event w s (event.Awake t) = refl
sizes_event w s (event.Queue q) = sizes_operation (head_of s.desk q.0) s.memory

sizes_all : (w : World) (s : State) (h : List Event) → map length (after_all w s h).memory ≡ map length s.memory
sizes_all w s [] = refl
sizes_all w s (e ∷ h) = sizes_all w (after w s e) h ∙ sizes_event w s e

-- the sizes of memory after a history are those at first
pub memory_sizes : (w : World) (h : List Event) → map length (state_after w h).memory ≡ map length (map zeros w.resources)
memory_sizes w h = sizes_all w (first_state w) h
