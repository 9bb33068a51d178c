-- What an event names that may come.
use Rattle.std.proofs.Common.{ℕ, zero, suc, ◌≡◌, ◌<◌, nat_lt, arith, List, [], ◌∷◌, length, slice_get, true, Some, None}
use Rattle.std.specs.List.{list_all}
use Rattle.dx_base.proofs.Lists.{and_both}
use Rattle.dx_base.specs.declared.ids.QueueId.{QueueId}
use Rattle.dx_base.specs.declared.ids.ThreadId.{ThreadId}
use Rattle.d3d_machine.specs.declared.calls.Call.{Call}
use Rattle.d3d_machine.specs.declared.calls.Reply.{Reply}
use Rattle.d3d_machine.specs.declared.events.Event.{Event}
use Rattle.d3d_machine.specs.declared.events.Event.TheVariants as event
use Rattle.d3d_machine.specs.declared.events.Operation.{Operation}
use Rattle.d3d_machine.specs.declared.world.World.{World}
use Rattle.d3d_machine.specs.Play.{is_marked, state_after}
use Rattle.d3d_machine.specs.State.{Place, opening_place, place_of}
use Rattle.d3d_machine.specs.World.{is_named}
use Rattle.d3d_machine.proofs.Shape.{run_has_shape}
use Rattle.d3d_judge.specs.declared.judge_parts.JudgeParts.{JudgeParts}
use Rattle.d3d_judge.specs.Fed.{IsNext}
use Rattle.d3d_judge.specs.JudgeParts.{AreOpen, TakesCall}

script_there : (xs : List (List Call)) (t k : ℕ) (c : Call) → slice_get (elim (slice_get xs t) [ None ↦ [] | Some cs ↦ cs ]) k ≡ Some c → t < length xs
script_there [] t zero c e = cc
script_there [] t (suc k) c e = cc
script_there (x ∷ xs) zero k c e = omega arith
script_there (x ∷ xs) (suc t) k c e = let l = script_there xs t k c e in omega (arith, l)

call_named : (w : World) (cs : List Call) (k : ℕ) (c : Call) → list_all (is_named w) cs ≡ true → slice_get cs k ≡ Some c → is_named w c ≡ true
call_named w [] zero c h e = cc
call_named w [] (suc k) c h e = cc
call_named w (d ∷ cs) zero c h e = let a = (and_both (is_named w d) (list_all (is_named w) cs) h).0 in cc
call_named w (d ∷ cs) (suc k) c h e = call_named w cs k c (and_both (is_named w d) (list_all (is_named w) cs) h).1 e

script_named : (w : World) (xs : List (List Call)) (t k : ℕ) (c : Call) → list_all (λ script. list_all (is_named w) script) xs ≡ true → slice_get (elim (slice_get xs t) [ None ↦ [] | Some cs ↦ cs ]) k ≡ Some c → is_named w c ≡ true
script_named w [] t zero c h e = cc
script_named w [] t (suc k) c h e = cc
script_named w (x ∷ xs) zero k c h e = call_named w x k c (and_both (list_all (is_named w) x) (list_all (λ script. list_all (is_named w) script) xs) h).0 e
script_named w (x ∷ xs) (suc t) k c h e = script_named w xs t k c (and_both (list_all (is_named w) x) (list_all (λ script. list_all (is_named w) script) xs) h).1 e

-- a thread's next call is of a thread of the world, and names objects of it
pub call_taken : (w : World) (h : List Event) (x : JudgeParts) (t : ThreadId) (c : Call) (r : Reply) → AreOpen w h x → IsNext w h (event.Call t c r) → TakesCall w h x t.0 c
call_taken w h x t c r k next = record {
  opened = k;
  thread = script_there w.scripts t.0 (place_of (state_after w h).desk t.0).made c next.1;
  named = script_named w w.scripts t.0 (place_of (state_after w h).desk t.0).made c k.named next.1;
}

abbrev place_in : List Place → ℕ → Place
place_in ps t = elim (slice_get ps t) [ None ↦ opening_place | Some p ↦ p ]

abbrev called_in : List (List Operation) → ℕ → List Operation
called_in oss q = elim (slice_get oss q) [ None ↦ [] | Some os ↦ os ]

place_there : (ps : List Place) (t : ℕ) → is_marked (place_in ps t).waits ≡ true → t < length ps
place_there [] t e = cc
place_there (p ∷ ps) zero e = omega arith
place_there (p ∷ ps) (suc t) e = let l = place_there ps t e in omega (arith, l)

-- a thread that waits is one of the world
pub thread_waits : (w : World) (h : List Event) (t : ThreadId) → IsNext w h (event.Awake t) → t.0 < length w.scripts
thread_waits w h t next = let l = place_there (state_after w h).desk.threads t.0 next in let e = (run_has_shape w h).desk.threads in omega (arith, l, e)

called_there : (oss : List (List Operation)) (q : ℕ) → nat_lt 0 (length (called_in oss q)) ≡ true → q < length oss
called_there [] q e = cc
called_there (os ∷ oss) zero e = omega arith
called_there (os ∷ oss) (suc q) e = let l = called_there oss q e in omega (arith, l)

-- a queue that has an operation is one of the world
pub queue_has : (w : World) (h : List Event) (q : QueueId) → IsNext w h (event.Queue q) → q.0 < length w.queues
queue_has w h q next = let l = called_there (state_after w h).desk.called q.0 next in let e = (run_has_shape w h).desk.called in omega (arith, l, e)
