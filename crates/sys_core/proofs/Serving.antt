-- What the calls on lists do, in the machine's words.
use Rattle.std.proofs.Common.{ℕ, zero, suc, ◌≡◌, refl, List, [], ◌∷◌, map, slice_get, Some, None}
use Rattle.dx_base.specs.declared.ids.ListId.{ListId}
use Rattle.dx_base.specs.declared.ids.QueueId.{QueueId}
use Rattle.dx_base.specs.declared.ids.AllocatorId.{AllocatorId}
use Rattle.d3d_machine.specs.declared.world.World.{World}
use Rattle.d3d_machine.specs.declared.calls.Record.{Record}
use Rattle.d3d_machine.specs.declared.calls.Call.TheVariants as call
use Rattle.d3d_machine.specs.declared.events.Listed.{Listed}
use Rattle.d3d_machine.specs.CallEffects.{records, begins}
use Rattle.d3d_machine.specs.Lists.{record_refusal, close_refusal, reset_refusal, lists_after_record, lists_after_close, lists_after_reset}
use Rattle.d3d_machine.proofs.CallsOnLists.{changed_unless, ended_unless}
use Rattle.sys_core.specs.Parts.{lists_by}
use Rattle.d3d_machine.specs.Past.{updates_at, last_of}

pub record_lists_by : (w : World) (lists : List Listed) (l : ListId) (what : Record) → lists_by w lists (call.Recording l what) ≡ lists_after_record w lists l.0 what
record_lists_by w lists l what = changed_unless w lists (record_refusal lists l.0) l.0 (records what)

pub close_lists_by : (w : World) (lists : List Listed) (l : ListId) → lists_by w lists (call.Close l) ≡ lists_after_close lists l.0
close_lists_by w lists l = ended_unless w lists (close_refusal lists l.0) l.0

pub reset_lists_by : (w : World) (lists : List Listed) (l : ListId) (a : AllocatorId) → lists_by w lists (call.Reset l a) ≡ lists_after_reset w lists l.0 a.0
reset_lists_by w lists l a = changed_unless w lists (reset_refusal w lists l.0 a.0) l.0 (begins a.0)

pub execute_lists_by : (w : World) (lists : List Listed) (q : QueueId) (ls : List ListId) → lists_by w lists (call.Execute q ls) ≡ lists
execute_lists_by w lists q ls = refl

-- the value of a fence is its last update
pub value_seen : (fences : List (List ℕ)) (f : ℕ) → last_of (updates_at fences f) ≡ elim (slice_get (map last_of fences) f) [ None ↦ 0 | Some v ↦ v ]
value_seen [] f = refl
value_seen (us ∷ fences) zero = refl
value_seen (us ∷ fences) (suc f) = value_seen fences f
