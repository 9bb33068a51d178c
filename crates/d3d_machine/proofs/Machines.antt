-- The steps of a machine, from its parts.
use Rattle.std.proofs.Common.{ℕ, zero, suc, ◌≡◌, ◌<◌, ◌+◌, ◌^◌, sym, ap, ◌∙◌, subst, refl, arith, nat_lt, Bool, true, false, List, [], ◌∷◌, map, length, drop, slice_get, get_or, Option, Some, None, is_some}
use Rattle.dx_base.specs.Lists.{changed_at}
use Rattle.dx_base.specs.Roomy.{Roomy}
use Rattle.dx_base.proofs.Lists.{length_changed}
use Rattle.dx_base.specs.declared.ids.QueueId.{QueueId}
use Rattle.d3d_machine.specs.declared.world.World.{World}
use Rattle.d3d_machine.specs.declared.calls.Call.{Call}
use Rattle.d3d_machine.specs.declared.events.Operation.{Operation}
use Rattle.d3d_machine.specs.declared.events.Event.{Event}
use Rattle.d3d_machine.specs.declared.events.Event.TheVariants as event
use Rattle.d3d_machine.specs.State.{Desk, State, place_of, called_of}
use Rattle.d3d_machine.specs.Effects.{done, desk_after_operation, memory_after_operation, after}
use Rattle.d3d_machine.specs.Shape.{HasLengths, HasShape}
use Rattle.d3d_machine.specs.Steps.{woken_if, queue_if, queue_step, served}
use Rattle.d3d_machine.specs.Machine.{operations_in, oldest_in}
use Rattle.d3d_machine.proofs.Shape.{after_has_shape, woken_keeps, operation_keeps, operation_length}
use Rattle.d3d_machine.proofs.CallEffects.{length_threads}
use Rattle.d3d_machine.proofs.Places.{made_done}

-- the oldest operation of a queue that is lent
pub oldest_is : (called : List (Roomy Operation)) (q : ℕ) (x : Roomy Operation) → q < length called → x ≡ get_or called q x →
    slice_get x.items 0 ≡ oldest_in (map operations_in called) q
oldest_is [] q x within lent = absurd (omega (arith, within))
oldest_is (y ∷ called) zero x within lent = ap (λ (r : Roomy Operation). slice_get r.items 0) lent
oldest_is (y ∷ called) (suc q) x within lent = oldest_is called q x (omega (arith, within)) lent

enabled_if : (b : Bool) (q : QueueId) → is_some (queue_if b q) ≡ true → queue_if b q ≡ Some (event.Queue q)
enabled_if true q some = refl
enabled_if false q some = absurd (cc)

idle_if : (b : Bool) (q : QueueId) → is_some (queue_if b q) ≡ false → queue_if b q ≡ None
idle_if true q none = absurd (cc)
idle_if false q none = refl

-- a queue whose step is enabled, or is not
pub queue_enabled : (s : State) (q : QueueId) → is_some (queue_step s q) ≡ true → queue_step s q ≡ Some (event.Queue q)
queue_enabled s q some = enabled_if (nat_lt 0 (length (called_of s.desk q.0))) q some

pub queue_idle : (s : State) (q : QueueId) → is_some (queue_step s q) ≡ false → queue_step s q ≡ None
queue_idle s q none = idle_if (nat_lt 0 (length (called_of s.desk q.0))) q none

-- the steps keep the shape
pub shape_called : (w : World) (s u : State) (e : Event) → HasShape w s → u ≡ after w s e → HasShape w u
shape_called w s u e shape is = subst (HasShape w) (sym is) (after_has_shape w s e shape)

pub shape_woken : (w : World) (s u : State) (met : Bool) (t : ℕ) → HasShape w s → u ≡ record s { desk = woken_if met t s.desk } → HasShape w u
shape_woken w s u met t shape is = subst (HasShape w) (sym is) (record { desk = by_mark met; memory = shape.memory })
  where
    by_mark : (b : Bool) → HasLengths w (woken_if b t s.desk)
    by_mark true = woken_keeps w t s.desk shape.desk
    by_mark false = shape.desk

pub shape_completed : (w : World) (s u : State) (q : ℕ) (called : List (List Operation)) (o : Option Operation) → HasShape w s → called ≡ changed_at (drop 1) q s.desk.called →
    u ≡ record { desk = desk_after_operation (record s.desk { called = called }) o; memory = memory_after_operation s.memory o } → HasShape w u
shape_completed w s u q called o shape is now =
    let old : HasLengths w s.desk = shape.desk in
    let d : Desk = record s.desk { called = called } in
    let desk : HasLengths w d = record {
      fences = old.fences;
      called = ap length is ∙ length_changed (drop 1) s.desk.called q ∙ old.called;
      lists = old.lists;
      threads = old.threads;
    } in
    subst (HasShape w) (sym now) (record { desk = operation_keeps w d o desk; memory = operation_length s.memory o ∙ shape.memory })

-- a thread that has been served, but not counted
pub thread_served : (w : World) (s u : State) (t : ℕ) (c : Call) → HasShape w s → u ≡ served w s t c → t < length w.scripts → t < length u.desk.threads
thread_served w s u t c shape is within =
    omega (arith, ap (λ (x : State). length x.desk.threads) is, length_threads s.desk t (done w s.desk.lists c), shape.desk.threads, within)

pub count_served : (w : World) (s u : State) (t : ℕ) (c : Call) → u ≡ served w s t c → (place_of s.desk t).made + 1 < 2 ^ 64 → (place_of u.desk t).made + 1 < 2 ^ 64
count_served w s u t c is small = omega (arith, ap (λ (x : State). (place_of x.desk t).made) is, made_done w s.desk t (done w s.desk.lists c) t, small)
