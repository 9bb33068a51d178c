-- The state after an event. Every event has an effect here; whether it may come stands apart.
use Rattle.std.specs.Prelude.{ℕ, ◌+◌, ◌/◌, ◌==◌, ◌&&◌, ◌||◌, nat_le, List, [], ◌∷◌, ◌++◌, map, slice_get, drop, Option, Some, None, Bool, true, false}
use Rattle.dx_base.specs.Lists.{changed_at, put, range_of}
use Rattle.dx_base.specs.Effects.{At, at, changed_by, unless}
use Rattle.dx_base.specs.declared.hresult.Hresult.{Hresult}
use Rattle.d3d_machine.specs.declared.world.World.{World}
use Rattle.d3d_machine.specs.declared.calls.Call.{Call}
use Rattle.d3d_machine.specs.declared.calls.Record.{Record}
use Rattle.d3d_machine.specs.declared.calls.Record.TheVariants.{Copy}
use Rattle.d3d_machine.specs.declared.events.Listed.{Listed}
use Rattle.d3d_machine.specs.declared.events.ListState.TheVariants.{Recording, Closed, Failed}
use Rattle.d3d_machine.specs.declared.events.Command.{Command}
use Rattle.d3d_machine.specs.declared.events.Operation.{Operation}
use Rattle.d3d_machine.specs.declared.events.Operation.TheVariants as operation
use Rattle.d3d_machine.specs.declared.events.Event.{Event}
use Rattle.d3d_machine.specs.declared.events.Event.TheVariants as event
use Rattle.d3d_machine.specs.State.{Waiting, Place, Desk, State, list_of, called_of, value_of, words_at, is_recording}
use Rattle.d3d_machine.specs.CallEffects.{Change, records, closes, fails, begins, Task, executes, signals, Does, does}
use Rattle.d3d_machine.specs.Replies.{refusal_by, record_error}

-- the memory after one command
abbrev pub after_record : Record → List (List ℕ) → List (List ℕ)
after_record (Copy d doff s soff bytes) m =
    changed_at (put (doff / 4) (range_of (soff / 4) (bytes / 4) (words_at m s.0))) d.0 m

-- the memory after commands in order
abbrev pub after_commands : List Command → List (List ℕ) → List (List ℕ)
after_commands [] m = m
after_commands (c ∷ cs) m = after_commands cs (after_record c.what m)

abbrev pub recorded_or : Option Hresult → Record → Listed → Listed
recorded_or None what x = record x { commands = x.commands ++ (record { what = what }) ∷ [] }
recorded_or (Some e) what x = record x { error = Some e }

abbrev pub kept_or : Option Hresult → Listed → Listed → Listed
kept_or None x y = y
kept_or (Some e) x y = x

-- a recording list after a recording call: where it holds an error, none; else the command or the error more
abbrev pub recorded : World → Record → Listed → Listed
recorded w what x = kept_or x.error x (recorded_or (record_error w x what) what x)

abbrev pub closed : Listed → Listed
closed x = record x { state = Closed }

abbrev pub failed : Listed → Listed
failed x = record x { state = Failed }

-- a list that begins to record
abbrev pub begun : ℕ → Listed
begun a = record { state = Recording; allocator = Some (record { 0 = a }); commands = []; error = None }

-- the commands of the lists, in order
abbrev pub gathered : List Listed → List ℕ → List Command
gathered lists [] = []
gathered lists (l ∷ ls) = (list_of lists l).commands ++ gathered lists ls

-- the desk with one more operation on that queue
abbrev pub pushed : Desk → ℕ → Operation → Desk
pushed d q o = record d { called = changed_at (λ os. os ++ o ∷ []) q d.called }

-- a thread that begins to wait; it is met at once where the fence's value suffices
abbrev pub begins_wait : ℕ → ℕ → ℕ → Place → Place
begins_wait now f v p = record p { waits = Some (record { fence = f; value = v; marked = nat_le v now }) }

-- a wait on that fence is met from the first moment at which the fence's value suffices
abbrev pub marked_wait : ℕ → ℕ → Waiting → Waiting
marked_wait f v x = record x { marked = x.marked || ((x.fence == f) && nat_le x.value v) }

abbrev pub marked_option : ℕ → ℕ → Option Waiting → Option Waiting
marked_option f v None = None
marked_option f v (Some x) = Some (marked_wait f v x)

abbrev pub marked_place : ℕ → ℕ → Place → Place
marked_place f v p = record p { waits = marked_option f v p.waits }

-- a fence takes a value: it may fall, and waits that it meets are marked for good
abbrev pub takes_value : ℕ → ℕ → Desk → Desk
takes_value f v d = record d { fences = changed_at (λ _. v) f d.fences; threads = map (marked_place f v) d.threads }

-- a list after a change
abbrev pub changed : World → Change → Listed → Listed
changed w (records what) = recorded w what
changed w closes = closed
changed w fails = failed
changed w (begins a) = λ _. begun a

-- the operation that a task is
abbrev pub operation_of : List Listed → Task → Operation
operation_of lists (executes ls) = operation.Execute (gathered lists (map (λ l. l.0) ls))
operation_of lists (signals f v) = operation.Signal f v

-- the operation that a queue is given
abbrev pub operation_given : List Listed → Option (At Task) → Option (At Operation)
operation_given lists None = None
operation_given lists (Some x) = at x.place (operation_of lists x.what)

-- one more, behind the others
abbrev pub with_one : {A : Type 0} → A → List A → List A
with_one x xs = xs ++ x ∷ []

abbrev pub fails_if : Bool → ℕ → Option (At Change)
fails_if true l = at l fails
fails_if false l = None

-- the change of a list by a call that may be refused, from the list whose recording it ends and its change of a list
abbrev pub change_unless : List Listed → Option ℕ → Option (At Change) → Option Hresult → Option (At Change)
change_unless lists None x r = unless x r
change_unless lists (Some l) x None = x
change_unless lists (Some l) x (Some e) = fails_if (is_recording (list_of lists l)) l

-- what is left of what a call does where it may be refused
abbrev pub done_unless : List Listed → Does → Option Hresult → Does
done_unless lists x r = record {
  list = change_unless lists x.ends x.list r;
  gives = unless x.gives r;
  sets = unless x.sets r;
  waits = unless x.waits r;
  stores = unless x.stores r;
  reads = unless x.reads r;
  asks = unless x.asks r;
  ends = None;
}

-- what a call does, refused or not
abbrev pub done : World → List Listed → Call → Does
done w lists c = done_unless lists (does c) (refusal_by w lists c)

abbrev pub desk_or : Option Hresult → Desk → Desk → Desk
desk_or None good bad = good
desk_or (Some e) good bad = bad

abbrev pub memory_or : Option Hresult → List (List ℕ) → List (List ℕ) → List (List ℕ)
memory_or None good bad = good
memory_or (Some e) good bad = bad

-- the places of threads when a fence takes a value
abbrev pub marked_places : Option (At ℕ) → List Place → List Place
marked_places None ps = ps
marked_places (Some x) ps = map (marked_place x.place x.what) ps

-- the places of threads when a thread begins to wait
abbrev pub waiting_places : Desk → ℕ → Option (At ℕ) → List Place → List Place
waiting_places d t None ps = ps
waiting_places d t (Some x) ps = changed_at (begins_wait (value_of d x.place) x.place x.what) t ps

-- the desk after what a thread's call does, but for the count of its calls
abbrev pub desk_by : World → Desk → ℕ → Does → Desk
desk_by w d t x = record {
  fences = changed_by (λ v _. v) x.sets d.fences;
  called = changed_by with_one (operation_given d.lists x.gives) d.called;
  lists = changed_by (changed w) x.list d.lists;
  threads = waiting_places d t x.waits (marked_places x.sets d.threads);
}

-- the memory after words were stored
abbrev pub memory_by : Option (At (ℕ × List ℕ)) → List (List ℕ) → List (List ℕ)
memory_by x m = changed_by (λ p. put p.0 p.1) x m

-- a thread's place, one call later
abbrev pub one_call_more : Place → Place
one_call_more p = record p { made = p.made + 1 }

-- the thread has made one more call
abbrev pub counted : ℕ → Desk → Desk
counted t d = record d { threads = changed_at one_call_more t d.threads }

-- the desk after a call
abbrev pub desk_after_call : World → Desk → ℕ → Call → Desk
desk_after_call w d t c = counted t (desk_by w d t (done w d.lists c))

-- the oldest operation of a queue has left it
abbrev pub dropped : Desk → ℕ → Desk
dropped d q = record d { called = changed_at (drop 1) q d.called }

abbrev pub desk_after_operation : Desk → Option Operation → Desk
desk_after_operation d None = d
desk_after_operation d (Some (operation.Execute commands)) = d
desk_after_operation d (Some (operation.Signal f v)) = takes_value f.0 v d

-- the oldest operation of a queue
abbrev pub head_of : Desk → ℕ → Option Operation
head_of d q = slice_get (called_of d q) 0

-- the thread goes on behind its wait
abbrev pub woken : ℕ → Desk → Desk
woken t d = record d { threads = changed_at (λ p. record p { waits = None }) t d.threads }

abbrev pub desk_after : World → Desk → Event → Desk
desk_after w d (event.Call t c r) = desk_after_call w d t.0 c
desk_after w d (event.Awake t) = woken t.0 d
desk_after w d (event.Queue q) = desk_after_operation (dropped d q.0) (head_of d q.0)

-- the memory after an operation: an execute applies its commands in order at once
abbrev pub memory_after_operation : List (List ℕ) → Option Operation → List (List ℕ)
memory_after_operation m None = m
memory_after_operation m (Some (operation.Execute commands)) = after_commands commands m
memory_after_operation m (Some (operation.Signal f v)) = m

abbrev pub memory_after : World → State → Event → List (List ℕ)
memory_after w s (event.Call t c r) = memory_by (done w s.desk.lists c).stores s.memory
memory_after w s (event.Awake t) = s.memory
memory_after w s (event.Queue q) = memory_after_operation s.memory (head_of s.desk q.0)

-- the state after an event
abbrev pub after : World → State → Event → State
after w s e = record { desk = desk_after w s.desk e; memory = memory_after w s e }

-- the state after events
abbrev pub after_all : World → State → List Event → State
after_all w s [] = s
after_all w s (e ∷ es) = after_all w (after w s e) es
