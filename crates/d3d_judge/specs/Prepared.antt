-- What is made for events before they are fed, and what becomes of them then.
use Rattle.std.specs.Prelude.{ℕ, ◌≡◌, Bool, List, slice_get, Option, Some, None}
use Rattle.dx_base.specs.Each.{Each}
use Rattle.d3d_machine.specs.declared.calls.Call.{Call}
use Rattle.d3d_machine.specs.declared.calls.Reply.{Reply}
use Rattle.d3d_machine.specs.declared.events.Event.{Event}
use Rattle.d3d_machine.specs.declared.events.Event.TheVariants as event
use Rattle.d3d_machine.specs.declared.events.Operation.{Operation}
use Rattle.d3d_machine.specs.declared.events.Operation.TheVariants as operation
use Rattle.d3d_machine.specs.declared.world.World.{World}
use Rattle.verdicts.specs.declared.rules.Rule.{Rule}
use Rattle.d3d_judge.specs.declared.actors.Actor.{Actor}
use Rattle.d3d_judge.specs.declared.carried_clocks.GivenWork.{GivenWork}
use Rattle.d3d_judge.specs.declared.judge_parts.JudgeParts.{JudgeParts}
use Rattle.d3d_judge.specs.declared.late.LateEvent.{LateEvent}
use Rattle.d3d_judge.specs.declared.late.LateEvent.TheVariants as late
use Rattle.d3d_judge.specs.declared.late.Taken.{Taken}
use Rattle.d3d_judge.specs.declared.late.Taken.TheVariants as taken
use Rattle.d3d_judge.specs.declared.made.Made.{Made}
use Rattle.d3d_judge.specs.declared.made.Made.TheVariants as made
use Rattle.d3d_judge.specs.declared.made.Prepared.{Prepared}
use Rattle.d3d_judge.specs.declared.word_touches.WordAccess.{WordAccess}
use Rattle.d3d_judge.specs.Actors.{actor_of, same_actor}
use Rattle.d3d_judge.specs.CarriedClocks.{oldest_work}
use Rattle.d3d_judge.specs.CopyScopes.{IsCopyReady}
use Rattle.d3d_judge.specs.Fed.{IsNext}
use Rattle.d3d_judge.specs.HostCalls.{access_in}
use Rattle.d3d_judge.specs.JudgeParts.{IsFound, CallFound, TakesCall, TakesQueue, call_of_thread, completion_of, found_after}
use Rattle.d3d_judge.specs.WordTouches.{HasTablesOfThread, KeepTables}

abbrev pub IsCopy : Made → Type 0
IsCopy made.Tables = ⊥
IsCopy (made.Copy c) = Unit {0}
IsCopy (made.Counts k) = ⊥

abbrev pub IsCounts : Made → Type 0
IsCounts made.Tables = ⊥
IsCounts (made.Copy c) = ⊥
IsCounts (made.Counts k) = Unit {0}

-- what was made is for an actor
abbrev pub is_for : Actor → Prepared → Bool
is_for a p = same_actor p.actor a

-- the place of what was made for an actor
pub record IsPlaceOf (ps : List Prepared) (a : Actor) (at : ℕ) : Type 0 where
  pub prepared : Prepared
  pub found : slice_get ps at ≡ Some prepared
  pub actor : prepared.actor ≡ a

-- what was made for an actor
pub record HasMade (ps : List Prepared) (a : Actor) (m : Made) : Type 0 where
  pub at : ℕ
  pub found : slice_get ps at ≡ Some (record { actor = a; made = m })

-- it is made for a call of a thread: tables of the words that it accesses, or a copy of it
abbrev pub IsMadeForCall : JudgeParts → ℕ → Call → Made → Option WordAccess → Type 0
IsMadeForCall x t c m None = m ≡ made.Copy c
IsMadeForCall x t c m (Some a) = HasTablesOfThread x.touches.resources t a

-- for the completion of an operation: tables of the words of its copies, and a copy of the counts
abbrev pub IsMadeForWork : World → JudgeParts → ℕ → Made → Operation → Type 0
IsMadeForWork w x q m (operation.Execute cs) = (m ≡ made.Counts x.clocks.ends) × Each (λ c. IsCopyReady w x.touches.resources q c.what) cs
IsMadeForWork w x q m (operation.Signal f v) = Unit {0}

-- for that of a queue's oldest
abbrev pub IsMadeForOldest : World → JudgeParts → ℕ → Made → Type 0
IsMadeForOldest w x q m = (p : GivenWork) → oldest_work x.clocks.pending q ≡ Some p → IsMadeForWork w x q m p.operation

-- for an event
abbrev pub IsMadeFor : World → JudgeParts → Event → Made → Type 0
IsMadeFor w x (event.Call t c r) m = IsMadeForCall x t.0 c m (access_in w c)
IsMadeFor w x (event.Awake t) m = Unit {0}
IsMadeFor w x (event.Queue q) m = IsMadeForOldest w x q.0 m

-- for whatever event of an actor may come next
abbrev pub IsReady : World → List Event → JudgeParts → Prepared → Type 0
IsReady w h x p = (e : Event) → IsNext w h e → actor_of e ≡ p.actor → IsMadeFor w x e p.made

-- parts have what others have that events need, and more
pub record Furnishes (x y : JudgeParts) : Type 0 where
  pub pending : y.clocks.pending ≡ x.clocks.pending
  pub ends : y.clocks.ends ≡ x.clocks.ends
  pub tables : KeepTables x.touches.resources y.touches.resources

-- an event may be taken later
abbrev pub IsOf : LateEvent → Event → Type 0
IsOf (late.Call t c) e = (r : Reply) × (e ≡ call_of_thread t c r)
IsOf (late.Completion q) e = e ≡ completion_of q

abbrev pub TakesLate : World → List Event → JudgeParts → LateEvent → Type 0
TakesLate w h x (late.Call t c) = TakesCall w h x t c × (access_in w c ≡ None)
TakesLate w h x (late.Completion q) = TakesQueue w h x q

abbrev pub LateFound : World → List Event → LateEvent → JudgeParts → Option Rule → Type 0
LateFound w h (late.Call t c) new r = CallFound w h t c new r
LateFound w h (late.Completion q) new r = IsFound w h (completion_of q) new r

-- an event that breaks nothing is to be taken later
pub record IsLater (w : World) (h : List Event) (e : Event) (x : JudgeParts) (what : LateEvent) : Type 0 where
  pub is : IsOf what e
  pub takes : TakesLate w h x what
  pub quiet : (found_after w h e).broken ≡ None

-- what becomes of an event
abbrev pub IsTaken : World → List Event → Event → JudgeParts → Taken → Type 0
IsTaken w h e new (taken.Told r) = IsFound w h e new r
IsTaken w h e new (taken.Later what) = IsLater w h e new what
