-- The events of the steps are the events that may come.
use Rattle.std.proofs.Common.{◌≡◌, refl, sym, ap, ◌∙◌, subst, nat_lt, Bool, true, false, length, Option, Some, None}
use Rattle.dx_base.specs.declared.ids.QueueId.{QueueId}
use Rattle.dx_base.specs.declared.ids.ThreadId.{ThreadId}
use Rattle.d3d_machine.specs.declared.world.World.{World}
use Rattle.d3d_machine.specs.declared.calls.Call.{Call}
use Rattle.d3d_machine.specs.declared.events.Event.{Event}
use Rattle.d3d_machine.specs.declared.events.Event.TheVariants as event
use Rattle.d3d_machine.specs.State.{Waiting, State, place_of, next_call, called_of}
use Rattle.d3d_machine.specs.Replies.{reply_of}
use Rattle.d3d_machine.specs.Play.{is_marked, May, SameReply}
use Rattle.d3d_machine.specs.Steps.{awake_if, call_step, place_step, queue_if}
use Rattle.d3d_machine.specs.Laws.{StepsMay}

call_may : (w : World) (s : State) (t : ThreadId) (o : Option Call) (e : Event) → (place_of s.desk t.0).waits ≡ None → next_call w s.desk t.0 ≡ o →
    call_step w s t o ≡ Some e → May SameReply w s e
call_may w s t None e waits next is = absurd (cc)
call_may w s t (Some c) e waits next is =
    let same : event.Call t c (reply_of w s c) ≡ e = cc in
    subst (May SameReply w s) same (waits, next, refl)

awake_may : (w : World) (s : State) (t : ThreadId) (b : Bool) (e : Event) → is_marked (place_of s.desk t.0).waits ≡ b → awake_if b t ≡ Some e → May SameReply w s e
awake_may w s t true e marked is =
    let same : event.Awake t ≡ e = cc in
    subst (May SameReply w s) same marked
awake_may w s t false e marked is = absurd (cc)

place_may : (w : World) (s : State) (t : ThreadId) (o : Option Waiting) (e : Event) → (place_of s.desk t.0).waits ≡ o → place_step w s t o ≡ Some e → May SameReply w s e
place_may w s t None e waits is = call_may w s t (next_call w s.desk t.0) e waits refl is
place_may w s t (Some x) e waits is = awake_may w s t x.marked e (ap is_marked waits) is

queue_may : (w : World) (s : State) (q : QueueId) (b : Bool) (e : Event) → nat_lt 0 (length (called_of s.desk q.0)) ≡ b → queue_if b q ≡ Some e → May SameReply w s e
queue_may w s q true e some is =
    let same : event.Queue q ≡ e = cc in
    subst (May SameReply w s) same some
queue_may w s q false e some is = absurd (cc)

awake_is : (w : World) (s : State) (t : ThreadId) (o : Option Waiting) → is_marked o ≡ true → place_step w s t o ≡ Some (event.Awake t)
awake_is w s t None marked = absurd (cc)
awake_is w s t (Some x) marked = ap (λ b. awake_if b t) marked

pub steps_may : StepsMay
steps_may = record {
  thread = λ w s t e is. place_may w s t (place_of s.desk t.0).waits e refl is;
  queue = λ w s q e is. queue_may w s q (nat_lt 0 (length (called_of s.desk q.0))) e refl is;
  call = λ w s t c r may. ap (place_step w s t) may.0 ∙ ap (call_step w s t) may.1 ∙ ap (λ x. Some (event.Call t c x)) (sym may.2);
  awake = λ w s t may. awake_is w s t (place_of s.desk t.0).waits may;
  completion = λ w s q may. ap (λ b. queue_if b q) may;
}
