-- Events keep the shape of a state, and lists short.
use Rattle.std.proofs.Common.{ℕ, ◌≡◌, ◌+◌, ◌/◌, refl, ◌∙◌, List, [], ◌∷◌, ◌++◌, map, drop, length, Option, Some, None}
use Rattle.std.proofs.Math.ListN.{length-map}
use Rattle.dx_base.proofs.Lists.{length_changed}
use Rattle.dx_base.proofs.Effects.{length_by}
use Rattle.d3d_machine.specs.declared.world.World.{World}
use Rattle.d3d_machine.specs.declared.calls.Record.{Record}
use Rattle.d3d_machine.specs.declared.calls.Record.TheVariants.{Copy}
use Rattle.d3d_machine.specs.declared.events.Command.{Command}
use Rattle.d3d_machine.specs.declared.events.Operation.{Operation}
use Rattle.d3d_machine.specs.declared.events.Operation.TheVariants as operation
use Rattle.d3d_machine.specs.declared.events.Event.{Event}
use Rattle.d3d_machine.specs.declared.events.Event.TheVariants as event
use Rattle.d3d_machine.specs.State.{Desk, State, words_at, first_state, opening_place, declared_list, zeros}
use Rattle.dx_base.specs.Lists.{put, range_of}
use Rattle.d3d_machine.specs.Effects.{changed, operation_given, with_one, done, desk_by, counted, takes_value, marked_place, dropped, desk_after_operation, head_of, woken, desk_after, memory_after_operation, memory_after, after_record, after_commands, after, after_all}
use Rattle.d3d_machine.specs.CallEffects.{Does}
use Rattle.d3d_machine.specs.Shape.{HasLengths, HasShape}
use Rattle.d3d_machine.proofs.CallEffects.{length_threads}

pub first_has_shape : (w : World) → HasShape w (first_state w)
first_has_shape w = record {
  desk = record {
    fences = refl;
    called = length-map w.queues (λ _. []);
    lists = length-map w.lists (λ _. declared_list);
    threads = length-map w.scripts (λ _. opening_place);
  };
  memory = length-map w.resources zeros;
}

takes_keeps : (w : World) (f v : ℕ) (d : Desk) → HasLengths w d → HasLengths w (takes_value f v d)
takes_keeps w f v d h = record {
  fences = length_changed (λ _. v) d.fences f ∙ h.fences;
  called = h.called;
  lists = h.lists;
  threads = length-map d.threads (marked_place f v) ∙ h.threads;
}

-- what a call does
done_keeps : (w : World) (d : Desk) (t : ℕ) (x : Does) → HasLengths w d → HasLengths w (desk_by w d t x)
done_keeps w d t x h = record {
  fences = length_by (λ v _. v) x.sets d.fences ∙ h.fences;
  called = length_by with_one (operation_given d.lists x.gives) d.called ∙ h.called;
  lists = length_by (changed w) x.list d.lists ∙ h.lists;
  threads = length_threads d t x ∙ h.threads;
}

counted_keeps : (w : World) (t : ℕ) (d : Desk) → HasLengths w d → HasLengths w (counted t d)
counted_keeps w t d h = record { fences = h.fences; called = h.called; lists = h.lists; threads = length_changed (λ p. record p { made = p.made + 1 }) d.threads t ∙ h.threads }

pub woken_keeps : (w : World) (t : ℕ) (d : Desk) → HasLengths w d → HasLengths w (woken t d)
woken_keeps w t d h = record { fences = h.fences; called = h.called; lists = h.lists; threads = length_changed (λ p. record p { waits = None }) d.threads t ∙ h.threads }

dropped_keeps : (w : World) (d : Desk) (q : ℕ) → HasLengths w d → HasLengths w (dropped d q)
dropped_keeps w d q h = record { fences = h.fences; called = length_changed (drop 1) d.called q ∙ h.called; lists = h.lists; threads = h.threads }

pub operation_keeps : (w : World) (d : Desk) (o : Option Operation) → HasLengths w d → HasLengths w (desk_after_operation d o)
operation_keeps w d None h = h
operation_keeps w d (Some (operation.Execute commands)) h = h
operation_keeps w d (Some (operation.Signal f v)) h = takes_keeps w f.0 v d h

desk_keeps : (w : World) (d : Desk) (e : Event) → HasLengths w d → HasLengths w (desk_after w d e)
desk_keeps w d (event.Call t c r) h = counted_keeps w t.0 (desk_by w d t.0 (done w d.lists c)) (done_keeps w d t.0 (done w d.lists c) h)
desk_keeps w d (event.Awake t) h = woken_keeps w t.0 d h
desk_keeps w d (event.Queue q) h = operation_keeps w (dropped d q.0) (head_of d q.0) (dropped_keeps w d q.0 h)

record_length : (what : Record) (m : List (List ℕ)) → length (after_record what m) ≡ length m
record_length (Copy d doff s soff bytes) m = length_changed (put (doff / 4) (range_of (soff / 4) (bytes / 4) (words_at m s.0))) m d.0

pub commands_length : (cs : List Command) (m : List (List ℕ)) → length (after_commands cs m) ≡ length m
commands_length [] m = refl
commands_length (c ∷ cs) m = commands_length cs (after_record c.what m) ∙ record_length c.what m

pub operation_length : (m : List (List ℕ)) (o : Option Operation) → length (memory_after_operation m o) ≡ length m
operation_length m None = refl
operation_length m (Some (operation.Execute commands)) = commands_length commands m
operation_length m (Some (operation.Signal f v)) = refl

memory_length : (w : World) (s : State) (e : Event) → length (memory_after w s e) ≡ length s.memory
memory_length w s (event.Call t c r) = length_by (λ p. put p.0 p.1) (done w s.desk.lists c).stores s.memory
memory_length w s (event.Awake t) = refl
memory_length w s (event.Queue q) = operation_length s.memory (head_of s.desk q.0)

-- an event keeps the shape
pub after_has_shape : (w : World) (s : State) (e : Event) → HasShape w s → HasShape w (after w s e)
after_has_shape w s e h = record { desk = desk_keeps w s.desk e h.desk; memory = memory_length w s e ∙ h.memory }

-- events keep the shape
pub plays_lengths : (w : World) (s : State) (es : List Event) → HasShape w s → HasShape w (after_all w s es)
plays_lengths w s [] h = h
plays_lengths w s (e ∷ es) h = plays_lengths w (after w s e) es (after_has_shape w s e h)

-- the state after a history has the world's shape
pub run_has_shape : (w : World) (h : List Event) → HasShape w (after_all w (first_state w) h)
run_has_shape w h = plays_lengths w (first_state w) h (first_has_shape w)
