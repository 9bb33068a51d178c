-- Laws of the machine: of its steps, of refused calls, of scripts, and of waits.
use Rattle.std.specs.Prelude.{ℕ, ◌≡◌, ◌++◌, ◌∷◌, [], List, Option, Some, None, true}
use Rattle.std.specs.List.{list_all}
use Rattle.dx_base.specs.Lists.{changed_at}
use Rattle.dx_base.specs.declared.hresult.Hresult.{Hresult}
use Rattle.dx_base.specs.declared.ids.QueueId.{QueueId}
use Rattle.dx_base.specs.declared.ids.ThreadId.{ThreadId}
use Rattle.d3d_machine.specs.declared.world.World.{World}
use Rattle.d3d_machine.specs.declared.calls.Call.{Call}
use Rattle.d3d_machine.specs.declared.calls.Reply.{Reply}
use Rattle.d3d_machine.specs.declared.calls.Reply.TheVariants as reply
use Rattle.d3d_machine.specs.declared.events.Event.{Event}
use Rattle.d3d_machine.specs.declared.events.Event.TheVariants as event
use Rattle.d3d_machine.specs.declared.events.Listed.{Listed}
use Rattle.d3d_machine.specs.World.{IsWorld}
use Rattle.d3d_machine.specs.CallEffects.{does}
use Rattle.d3d_machine.specs.State.{State, Waiting, list_of, place_of, is_recording}
use Rattle.d3d_machine.specs.Effects.{one_call_more}
use Rattle.d3d_machine.specs.Good.{is_good_list, is_good_operation}
use Rattle.d3d_machine.specs.Lists.{failed_lists_if}
use Rattle.d3d_machine.specs.Marks.{IsMetSince}
use Rattle.d3d_machine.specs.Play.{AreOfScripts, May, SameReply, IsRunButWords, state_after}
use Rattle.d3d_machine.specs.Steps.{thread_step, queue_step}

-- the events of the steps are the events that may come
pub record StepsMay : Type 0 where
  pub thread : (w : World) (s : State) (t : ThreadId) (e : Event) → thread_step w s t ≡ Some e → May SameReply w s e
  pub queue : (w : World) (s : State) (q : QueueId) (e : Event) → queue_step s q ≡ Some e → May SameReply w s e
  pub call : (w : World) (s : State) (t : ThreadId) (c : Call) (r : Reply) → May SameReply w s (event.Call t c r) → thread_step w s t ≡ Some (event.Call t c r)
  pub awake : (w : World) (s : State) (t : ThreadId) → May SameReply w s (event.Awake t) → thread_step w s t ≡ Some (event.Awake t)
  pub completion : (w : World) (s : State) (q : QueueId) → May SameReply w s (event.Queue q) → queue_step s q ≡ Some (event.Queue q)

abbrev pub failed_lists_by : List Listed → Option ℕ → List Listed
failed_lists_by lists None = lists
failed_lists_by lists (Some l) = failed_lists_if (is_recording (list_of lists l)) l lists

-- the lists after a refused call: they stay, but that a recording list whose close is refused has failed
abbrev pub lists_after_refused : List Listed → Call → List Listed
lists_after_refused lists c = failed_lists_by lists (does c).ends

-- a call of a thread had no effect but its reply: memory, fences and queues are as before, its thread has made one call
-- more, and the lists are those after a refused call
pub record HasNoEffect (s u : State) (t : ThreadId) (c : Call) : Type 0 where
  pub memory : u.memory ≡ s.memory
  pub fences : u.desk.fences ≡ s.desk.fences
  pub called : u.desk.called ≡ s.desk.called
  pub threads : u.desk.threads ≡ changed_at one_call_more t.0 s.desk.threads
  pub lists : u.desk.lists ≡ lists_after_refused s.desk.lists c

-- in a run, also but for words, a call that is answered by an error has no effect
abbrev pub RefusedCallsHaveNoEffect : Type 0
RefusedCallsHaveNoEffect =
    (w : World) (h : List Event) (t : ThreadId) (c : Call) (e : Hresult) → IsRunButWords w (h ++ event.Call t c (reply.Error e) ∷ []) →
    HasNoEffect (state_after w h) (state_after w (h ++ event.Call t c (reply.Error e) ∷ [])) t c

-- in a run, also but for words, each thread's calls are the first of its script
abbrev pub RunsFollowScripts : Type 0
RunsFollowScripts = (w : World) (h : List Event) → IsRunButWords w h → AreOfScripts w h

-- in a run of a valid world, also but for words, a thread's wait is marked exactly where an update of its fence is at least
-- its value that was current at its call or applied since
abbrev pub WaitsAreMetSince : Type 0
WaitsAreMetSince =
    (w : World) (h : List Event) → IsWorld w → IsRunButWords w h → (t : ℕ) (x : Waiting) →
    (place_of (state_after w h).desk t).waits ≡ Some x → IsMetSince w h t x

-- in every history each command of a list, and of a called operation that is not complete, names live buffers, and its
-- ranges are whole words inside them that do not overlap
pub record RecordedAreGood : Type 0 where
  pub lists : (w : World) (h : List Event) → list_all (is_good_list w) (state_after w h).desk.lists ≡ true
  pub called : (w : World) (h : List Event) → list_all (λ os. list_all (is_good_operation w) os) (state_after w h).desk.called ≡ true
