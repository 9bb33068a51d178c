-- What each call does to the state, but for the count of the thread's calls.
use Rattle.std.proofs.Common.{ℕ, ◌≡◌, ◌/◌, refl, ap, List, length, Option, Some, None}
use Rattle.dx_base.specs.Lists.{changed_at, put}
use Rattle.dx_base.specs.Effects.{at, changed_by, unless}
use Rattle.dx_base.specs.declared.hresult.Hresult.{Hresult}
use Rattle.dx_base.specs.declared.ids.QueueId.{QueueId}
use Rattle.dx_base.specs.declared.ids.ListId.{ListId}
use Rattle.dx_base.specs.declared.ids.AllocatorId.{AllocatorId}
use Rattle.dx_base.specs.declared.ids.ResourceId.{ResourceId}
use Rattle.d3d_machine.specs.declared.world.World.{World}
use Rattle.d3d_machine.specs.declared.calls.Call.TheVariants as call
use Rattle.d3d_machine.specs.declared.calls.Record.{Record}
use Rattle.d3d_machine.specs.declared.events.Listed.{Listed}
use Rattle.d3d_machine.specs.declared.events.Operation.TheVariants as operation
use Rattle.d3d_machine.specs.CallEffects.{records, begins, Task, executes}
use Rattle.d3d_machine.specs.State.{Desk, State}
use Rattle.d3d_machine.specs.Effects.{with_one, operation_of, operation_given, desk_or, memory_or, memory_by, pushed}
use Rattle.d3d_machine.specs.Checks.{write_refusal}
use Rattle.d3d_machine.specs.Lists.{record_refusal, lists_after_record, close_refusal, lists_after_close, reset_refusal, lists_after_reset, execute_refusal, commands_of}
use Rattle.d3d_machine.specs.Steps.{served}
use Rattle.d3d_machine.proofs.CallsOnLists.{changed_unless, ended_unless}

abbrev with_lists : State → List Listed → State
with_lists s lists = record s { desk = record s.desk { lists = lists } }

pub served_record : (w : World) (s : State) (t : ℕ) (l : ListId) (what : Record) →
    served w s t (call.Recording l what) ≡ record s { desk = record s.desk { lists = lists_after_record w s.desk.lists l.0 what } }
served_record w s t l what = ap (with_lists s) (changed_unless w s.desk.lists (record_refusal s.desk.lists l.0) l.0 (records what))

pub served_close : (w : World) (s : State) (t : ℕ) (l : ListId) →
    served w s t (call.Close l) ≡ record s { desk = record s.desk { lists = lists_after_close s.desk.lists l.0 } }
served_close w s t l = ap (with_lists s) (ended_unless w s.desk.lists (close_refusal s.desk.lists l.0) l.0)

pub served_reset : (w : World) (s : State) (t : ℕ) (l : ListId) (a : AllocatorId) →
    served w s t (call.Reset l a) ≡ record s { desk = record s.desk { lists = lists_after_reset w s.desk.lists l.0 a.0 } }
served_reset w s t l a = ap (with_lists s) (changed_unless w s.desk.lists (reset_refusal w s.desk.lists l.0 a.0) l.0 (begins a.0))

given_unless : (d : Desk) (r : Option Hresult) (q : ℕ) (o : Task) →
    record d { called = changed_by with_one (operation_given d.lists (unless (at q o) r)) d.called } ≡ desk_or r (pushed d q (operation_of d.lists o)) d
given_unless d None q o = refl
given_unless d (Some e) q o = refl

pub served_execute : (w : World) (s : State) (t : ℕ) (q : QueueId) (ls : List ListId) →
    served w s t (call.Execute q ls)
    ≡ record s { desk = desk_or (execute_refusal w s.desk.lists q.0 ls) (pushed s.desk q.0 (operation.Execute (commands_of s.desk.lists ls))) s.desk }
served_execute w s t q ls = ap (λ d. let u : State = record s { desk = d } in u) (given_unless s.desk (execute_refusal w s.desk.lists q.0 ls) q.0 (executes ls))

stored_unless : (m : List (List ℕ)) (r : Option Hresult) (b first : ℕ) (ws : List ℕ) →
    memory_by (unless (at b (first, ws)) r) m ≡ memory_or r (changed_at (put first ws) b m) m
stored_unless m None b first ws = refl
stored_unless m (Some e) b first ws = refl

pub served_write : (w : World) (s : State) (t : ℕ) (b : ResourceId) (offset : ℕ) (ws : List ℕ) →
    served w s t (call.Write b offset ws)
    ≡ record s { memory = memory_or (write_refusal w b.0 offset (length ws)) (changed_at (put (offset / 4) ws) b.0 s.memory) s.memory }
served_write w s t b offset ws =
    ap (λ m. let u : State = record s { memory = m } in u) (stored_unless s.memory (write_refusal w b.0 offset (length ws)) b.0 (offset / 4) ws)
