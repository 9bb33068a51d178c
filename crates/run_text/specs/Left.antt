-- What a run leaves: threads that are not finished, and queues that are not empty.
use Rattle.std.specs.Prelude.{ℕ, ◌+◌, ◌==◌, ◌&&◌, ◌||◌, nat_lt, List, [], ◌∷◌, length, slice_get, Some, None, Bool, true, false, count_by, if◌then◌else◌}
use Rattle.std.specs.List.{filter, range_with_len}
use Rattle.d3d_machine.specs.declared.calls.Call.{Call}
use Rattle.d3d_machine.specs.declared.calls.Call.TheVariants as call
use Rattle.d3d_machine.specs.declared.calls.Reply.{Reply}
use Rattle.d3d_machine.specs.declared.calls.Reply.TheVariants as reply
use Rattle.d3d_machine.specs.declared.events.Event.{Event}
use Rattle.d3d_machine.specs.declared.events.Event.TheVariants as event
use Rattle.run_text.specs.declared.left.Progress.{Progress}
use Rattle.run_text.specs.History.{names_in}
use Rattle.trace_text.specs.Values.{Value}

-- the call is one from which its thread has to wake
abbrev pub is_wait : Call → Bool
is_wait (call.Recording l what) = false
is_wait (call.Close l) = false
is_wait (call.Reset l a) = false
is_wait (call.Execute q ls) = false
is_wait (call.Signal q f v) = false
is_wait (call.HostSignal f v) = false
is_wait (call.HostWait f v) = true
is_wait (call.Value f) = false
is_wait (call.Write b offset ws) = false
is_wait (call.Read b offset bytes) = false

-- how far a thread has come, one event later
abbrev pub progress_after : ℕ → Progress → Event → Progress
progress_after t p (event.Call u c r) = if (u.0 == t) then record { calls = p.calls + 1; waits = is_wait c } else p
progress_after t p (event.Awake u) = if (u.0 == t) then record { calls = p.calls; waits = false } else p
progress_after t p (event.Queue q) = p

unfoldable pub progress_from : ℕ → Progress → List Event → Progress
progress_from t p [] = p
progress_from t p (e ∷ h) = progress_from t (progress_after t p e) h

-- how far a thread has come: how many of its calls are answered, and whether the last of them is a wait without its waking
abbrev pub progress_of : ℕ → List Event → Progress
progress_of t h = progress_from t (record { calls = 0; waits = false }) h

-- calls of a script are left, or a wait has not ended
abbrev pub is_left : ℕ → Progress → Bool
is_left calls p = p.waits || nat_lt p.calls calls

-- the script of a thread
abbrev pub script_at : List (List Call) → ℕ → List Call
script_at ss t = elim (slice_get ss t) [ None ↦ [] | Some s ↦ s ]

-- a thread's script has calls that the history does not answer, or its last call was a wait without its waking
abbrev pub is_unfinished_of : List (List Call) → List Event → ℕ → Bool
is_unfinished_of ss h t = is_left (length (script_at ss t)) (progress_of t h)

abbrev pub is_unfinished : Value → List Event → ℕ → Bool
is_unfinished v h t = is_unfinished_of v.scripts h t

abbrev pub is_done : Reply → Bool
is_done reply.Done = true
is_done (reply.Value v) = false
is_done (reply.Words ws) = false
is_done (reply.Error e) = false

-- the call is one that gives the queue an operation, where it is not refused
abbrev pub is_call_on : ℕ → Call → Bool
is_call_on q (call.Recording l what) = false
is_call_on q (call.Close l) = false
is_call_on q (call.Reset l a) = false
is_call_on q (call.Execute p ls) = p.0 == q
is_call_on q (call.Signal p f v) = p.0 == q
is_call_on q (call.HostSignal f v) = false
is_call_on q (call.HostWait f v) = false
is_call_on q (call.Value f) = false
is_call_on q (call.Write b offset ws) = false
is_call_on q (call.Read b offset bytes) = false

-- the event gives the queue an operation
abbrev pub gives : ℕ → Event → Bool
gives q (event.Call t c r) = is_call_on q c && is_done r
gives q (event.Awake t) = false
gives q (event.Queue p) = false

-- the event completes an operation of the queue
abbrev pub completes : ℕ → Event → Bool
completes q (event.Call t c r) = false
completes q (event.Awake t) = false
completes q (event.Queue p) = p.0 == q

-- a queue was given more operations than it completed
abbrev pub is_busy : List Event → ℕ → Bool
is_busy h q = nat_lt (count_by (completes q) h) (count_by (gives q) h)

-- the threads that are not finished, and the queues that are not empty, each in order
abbrev pub unfinished_threads : Value → List Event → List ℕ
unfinished_threads v h = filter (is_unfinished v h) (range_with_len 0 (length v.scripts))

abbrev pub busy_queues : Value → List Event → List ℕ
busy_queues v h = filter (is_busy h) (range_with_len 0 (length (names_in v).queues))

-- the same by the scripts, and by the number of queues
abbrev pub unfinished_of : List (List Call) → List Event → List ℕ
unfinished_of ss h = filter (is_unfinished_of ss h) (range_with_len 0 (length ss))

abbrev pub busy_of : ℕ → List Event → List ℕ
busy_of n h = filter (is_busy h) (range_with_len 0 n)
