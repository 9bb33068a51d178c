-- Runs: which events may come, and in which order.
use Rattle.std.specs.Prelude.{ℕ, ◌≡◌, ◌==◌, nat_lt, List, [], ◌∷◌, ◌++◌, length, take, Option, Some, None, Bool, true, false, if◌then◌else◌}
use Rattle.d3d_machine.specs.declared.world.World.{World}
use Rattle.d3d_machine.specs.declared.calls.Call.{Call}
use Rattle.d3d_machine.specs.declared.calls.Reply.{Reply}
use Rattle.d3d_machine.specs.declared.calls.Reply.TheVariants as reply
use Rattle.d3d_machine.specs.declared.events.Event.{Event}
use Rattle.d3d_machine.specs.declared.events.Event.TheVariants as event
use Rattle.d3d_machine.specs.State.{Waiting, Desk, State, place_of, next_call, called_of, script_of, first_state}
use Rattle.d3d_machine.specs.Replies.{reply_of}
use Rattle.d3d_machine.specs.Effects.{after, after_all}

abbrev pub is_marked : Option Waiting → Bool
is_marked None = false
is_marked (Some x) = x.marked

-- an event may come: a call where the thread does not wait, it is the next of its script and has the reply
-- of the state; a waking where the wait is met; a completion where the queue has an operation
abbrev pub May : (Reply → Reply → Type 0) → World → State → Event → Type 0
May Same w s (event.Call t c r) = ((place_of s.desk t.0).waits ≡ None) × (next_call w s.desk t.0 ≡ Some c) × Same r (reply_of w s c)
May Same w s (event.Awake t) = is_marked (place_of s.desk t.0).waits ≡ true
May Same w s (event.Queue q) = nat_lt 0 (length (called_of s.desk q.0)) ≡ true

-- each event may come in the state that those before it leave
abbrev pub Plays : (Reply → Reply → Type 0) → World → State → List Event → Type 0
Plays Same w s [] = Unit {0}
Plays Same w s (e ∷ es) = May Same w s e × Plays Same w (after w s e) es

-- the replies are one
abbrev pub SameReply : Reply → Reply → Type 0
SameReply a b = a ≡ b

-- the replies are one, but for the numbers of words that were read
abbrev pub SameButWords : Reply → Reply → Type 0
SameButWords reply.Done b = reply.Done ≡ b
SameButWords (reply.Value v) b = reply.Value v ≡ b
SameButWords (reply.Error e) b = reply.Error e ≡ b
SameButWords (reply.Words xs) reply.Done = ⊥
SameButWords (reply.Words xs) (reply.Value v) = ⊥
SameButWords (reply.Words xs) (reply.Words ys) = length xs ≡ length ys
SameButWords (reply.Words xs) (reply.Error e) = ⊥

-- a run of the world
abbrev pub IsRun : World → List Event → Type 0
IsRun w h = Plays SameReply w (first_state w) h

-- a run of the world but for words
abbrev pub IsRunButWords : World → List Event → Type 0
IsRunButWords w h = Plays SameButWords w (first_state w) h

-- the state after a history
abbrev pub state_after : World → List Event → State
state_after w h = after_all w (first_state w) h

abbrev pub calls_by : ℕ → Event → List Call
calls_by t (event.Call u c r) = if (u.0 == t) then c ∷ [] else []
calls_by t (event.Awake u) = []
calls_by t (event.Queue q) = []

-- the calls of a thread in a history, in order
abbrev pub calls_in : ℕ → List Event → List Call
calls_in t [] = []
calls_in t (e ∷ h) = calls_by t e ++ calls_in t h

-- each thread's calls are the first of its script
abbrev pub AreOfScripts : World → List Event → Type 0
AreOfScripts w h = (t : ℕ) → calls_in t h ≡ take (length (calls_in t h)) (script_of w t)

-- every script has ended, no thread waits, and every queue is empty
pub record IsFinished (w : World) (d : Desk) : Type 0 where
  pub scripts : (t : ℕ) → (place_of d t).made ≡ length (script_of w t)
  pub waits : (t : ℕ) → (place_of d t).waits ≡ None
  pub queues : (q : ℕ) → called_of d q ≡ []
