-- What a judge was fed, and which event may come next.
use Rattle.std.specs.Prelude.{cond, List, [], ◌∷◌, ◌++◌, Bool}
use Rattle.std.specs.List.{list_any}
use Rattle.d3d_machine.specs.declared.calls.Reply.{Reply}
use Rattle.d3d_machine.specs.declared.events.Event.{Event}
use Rattle.d3d_machine.specs.declared.world.World.{World}
use Rattle.d3d_machine.specs.Play.{May, state_after}
use Rattle.d3d_judge.specs.declared.actors.Actor.{Actor}
use Rattle.d3d_judge.specs.declared.kept.Note.{Note}
use Rattle.d3d_judge.specs.declared.kept.Note.TheVariants.{Begin, Feed}
use Rattle.d3d_judge.specs.Actors.{actor_of, same_actor}

-- a judge's world, and the events that it was fed, in order
pub record Fed : Type 0 where
  pub world : World
  pub history : List Event

-- a world without objects
abbrev pub no_world : World
no_world = record { queues = []; fences = []; resources = []; allocators = []; lists = []; scripts = [] }

abbrev pub nothing_fed : Fed
nothing_fed = record { world = no_world; history = [] }

-- with one event more
abbrev pub fed_more : Fed → Event → Fed
fed_more f e = record f { history = f.history ++ e ∷ [] }

-- what was fed after one thing more was told
abbrev pub after_note : Fed → Note → Fed
after_note f (Begin w) = record { world = w.now; history = [] }
after_note f (Feed e) = fed_more f e.now

-- any reply is right
abbrev pub AnyReply : Reply → Reply → Type 0
AnyReply a b = Unit {0}

-- an event may come behind a history, whatever its reply: it is the next call of a thread that does not wait, the waking of
-- one whose wait is met, or the completion of a queue that has an operation
abbrev pub IsNext : World → List Event → Event → Type 0
IsNext w h e = May AnyReply w (state_after w h) e

-- what contracts see of a judge: its world, the events that it was fed, in order, and the threads and queues whose next event it is
-- prepared for
pub record JudgeView : Type 0 where
  pub world : World
  pub history : List Event
  pub prepared : List Actor

abbrev pub first_view : World → JudgeView
first_view w = record { world = w; history = []; prepared = [] }

-- with one event more it is prepared for none
abbrev pub fed_view : JudgeView → Event → JudgeView
fed_view v e = record v { history = v.history ++ e ∷ []; prepared = [] }

-- a thread or queue is one of those
abbrev pub is_among : Actor → List Actor → Bool
is_among a others = list_any (λ b. same_actor b a) others

-- the judge is prepared for an event
abbrev pub is_prepared : JudgeView → Event → Bool
is_prepared v e = is_among (actor_of e) v.prepared

-- prepared for one more
abbrev pub prepared_view : JudgeView → Event → JudgeView
prepared_view v e = record v { prepared = cond (is_among (actor_of e) v.prepared) v.prepared (v.prepared ++ actor_of e ∷ []) }
