-- Who takes the steps of a run.
use Rattle.std.specs.Prelude.{◌==◌, Bool, false}
use Rattle.d3d_machine.specs.declared.events.Event.{Event}
use Rattle.d3d_machine.specs.declared.events.Event.TheVariants as event
use Rattle.d3d_judge.specs.declared.actors.Actor.{Actor}
use Rattle.d3d_judge.specs.declared.actors.Actor.TheVariants as actor

-- whose step an event is
abbrev pub actor_of : Event → Actor
actor_of (event.Call t c r) = actor.Thread t.0
actor_of (event.Awake t) = actor.Thread t.0
actor_of (event.Queue q) = actor.Queue q.0

-- two are one
abbrev pub same_actor : Actor → Actor → Bool
same_actor (actor.Thread t) (actor.Thread u) = t == u
same_actor (actor.Thread t) (actor.Queue q) = false
same_actor (actor.Queue q) (actor.Thread t) = false
same_actor (actor.Queue p) (actor.Queue q) = p == q
