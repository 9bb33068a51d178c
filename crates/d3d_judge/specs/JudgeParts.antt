-- What the parts of a judge are after a history.
use Rattle.std.specs.Prelude.{cond, ℕ, ◌≡◌, ◌<◌, ◌≤◌, ◌+◌, ◌^◌, ◌++◌, List, [], ◌∷◌, length, Option, Some, None, true}
use Rattle.std.specs.List.{list_all}
use Rattle.dx_base.specs.Each.{Each}
use Rattle.clocks.specs.Clocks.{number}
use Rattle.d3d_machine.specs.declared.calls.Call.{Call}
use Rattle.d3d_machine.specs.declared.calls.Reply.{Reply}
use Rattle.d3d_machine.specs.declared.events.Event.{Event}
use Rattle.d3d_machine.specs.declared.events.Event.TheVariants as event
use Rattle.d3d_machine.specs.declared.events.Operation.{Operation}
use Rattle.d3d_machine.specs.declared.events.Operation.TheVariants as operation
use Rattle.d3d_machine.specs.declared.world.World.{World}
use Rattle.d3d_machine.specs.Effects.{desk_after}
use Rattle.d3d_machine.specs.Play.{state_after}
use Rattle.d3d_machine.specs.World.{is_named, are_named, is_small_resource}
use Rattle.d3d_judge.specs.declared.carried_clocks.GivenWork.{GivenWork}
use Rattle.d3d_judge.specs.declared.judge_parts.JudgeParts.{JudgeParts}
use Rattle.d3d_judge.specs.declared.word_touches.WordAccess.{WordAccess}
use Rattle.verdicts.specs.declared.rules.Rule.{Rule}
use Rattle.verdicts.specs.declared.rules.Verdict.{Verdict}
use Rattle.verdicts.specs.declared.rules.Verdict.TheVariants.{Clean, Broken}
use Rattle.d3d_judge.specs.Carried.{queue_clock}
use Rattle.d3d_judge.specs.CarriedClocks.{clocks_of, AreSized, HasRoom, oldest_work}
use Rattle.d3d_judge.specs.CopyScopes.{range_by, IsDone, IsShapedFor, IsCopyReady}
use Rattle.d3d_judge.specs.Happenings.{Calls, Deed, Stores, Loads, happening_of}
use Rattle.d3d_judge.specs.Judged.{Judged, Found, found_in, judge, judge_after}
use Rattle.d3d_judge.specs.Setting.{setting_of}
use Rattle.d3d_judge.specs.WordTouches.{AreAllTied}

-- the judge's clocks have a number for each queue and thread, which is at most the number of events; each queue knows what it
-- completed, all that was made is done, and nothing is lost
pub record IsSteady (w : World) (j : Judged) : Type 0 where
  pub sized : AreSized (length w.queues) (length w.scripts) (length w.fences) j.clocks
  pub few_operations : (q : ℕ) → number j.clocks.ends.queues q ≤ j.events
  pub few_calls : (t : ℕ) → number j.clocks.ends.threads t ≤ j.events
  pub own : (q : ℕ) → number j.clocks.ends.queues q ≤ number (queue_clock j.clocks q).queues q
  pub done : Each (IsDone w j.clocks.ends) j.made
  pub lost : j.lost ≡ []

-- the parts of a judge have the lists of the machine, the clocks of the judge, and what it saw made in tables
pub record Stands (w : World) (h : List Event) (x : JudgeParts) : Type 0 where
  pub lists : x.lists ≡ (state_after w h).desk.lists
  pub clocks : clocks_of x.clocks ≡ (judge_after w h).clocks
  pub ties : AreAllTied (judge_after w h).made x.touches.resources
  pub shaped : IsShapedFor w x.touches.resources
  pub events : (judge_after w h).events ≡ length h
  pub steady : IsSteady w (judge_after w h)

-- what is found of an event behind a history
abbrev pub found_after : World → List Event → Event → Found
found_after w h e = found_in (setting_of w) (judge_after w h) (happening_of w (state_after w h).desk e)

-- the first rule that an event behind a history breaks, if it breaks one; and where it breaks none, the parts go on
pub record IsFound (w : World) (h : List Event) (e : Event) (new : JudgeParts) (r : Option Rule) : Type 0 where
  pub rule : r ≡ (found_after w h e).broken
  pub goes_on : r ≡ None → Stands w (h ++ e ∷ []) new

-- the verdict of an event of that number that breaks a rule, or none
abbrev pub verdict_of : ℕ → Option Rule → Verdict
verdict_of n None = Clean
verdict_of n (Some r) = Broken r n

-- a thread makes a call, whatever its reply
abbrev pub call_of_thread : ℕ → Call → Reply → Event
call_of_thread t c r = event.Call (record { 0 = t }) c r

-- the oldest operation of a queue completes
abbrev pub completion_of : ℕ → Event
completion_of q = event.Queue (record { 0 = q })

abbrev pub waking_of : ℕ → Event
waking_of t = event.Awake (record { 0 = t })

-- parts may be told an event: they stand behind a clean history of a world whose calls name objects of it, and whose resources
-- are small, and there are numbers left
pub record AreOpen (w : World) (h : List Event) (x : JudgeParts) : Type 0 where
  pub named : are_named w ≡ true
  pub sizes : list_all is_small_resource w.resources ≡ true
  pub clean : judge w h ≡ Clean
  pub stands : Stands w h x
  pub few : length h + 1 < 2 ^ 64

-- so may they a call of a thread, which names objects of the world
pub record TakesCall (w : World) (h : List Event) (x : JudgeParts) (t : ℕ) (c : Call) : Type 0 where
  pub opened : AreOpen w h x
  pub thread : t < length w.scripts
  pub named : is_named w c ≡ true

-- and the completion of an operation of a queue
pub record TakesQueue (w : World) (h : List Event) (x : JudgeParts) (q : ℕ) : Type 0 where
  pub opened : AreOpen w h x
  pub queue : q < length w.queues

-- what is found of a call, whatever its reply
abbrev pub CallFound : World → List Event → ℕ → Call → JudgeParts → Option Rule → Type 0
CallFound w h t c new r = (reply : Reply) → IsFound w h (call_of_thread t c reply) new r

-- an operation of a queue has what its completion needs: tables of the words of its copies, or room for its update
abbrev pub IsReadyFor : World → JudgeParts → ℕ → Operation → Type 0
IsReadyFor w x q (operation.Execute cs) = Each (λ c. IsCopyReady w x.touches.resources q c.what) cs
IsReadyFor w x q (operation.Signal f v) = HasRoom x.clocks.updates f.0

-- the oldest of a queue has it
abbrev pub OldestIsReady : World → JudgeParts → ℕ → Type 0
OldestIsReady w x q = (p : GivenWork) → oldest_work x.clocks.pending q ≡ Some p → IsReadyFor w x q p.operation

-- parts that stand where others stand
abbrev pub StandWhere : World → JudgeParts → JudgeParts → Type 0
StandWhere w old new = (h : List Event) → Stands w h old → Stands w h new

-- what an access of the host does
abbrev pub deed_by : WordAccess → Deed
deed_by a = cond a.writes (Stores (range_by a)) (Loads (range_by a))

-- what is found of every event of a thread's call that does this, and leaves the lists
abbrev pub DeedFound : World → List Event → ℕ → Deed → JudgeParts → Option Rule → Type 0
DeedFound w h t d new r =
    (e : Event) → happening_of w (state_after w h).desk e ≡ Calls t d → (desk_after w (state_after w h).desk e).lists ≡ (state_after w h).desk.lists → IsFound w h e new r
