-- The reply of each call: the first refusal whose condition holds, and otherwise what the call answers.
use Rattle.std.specs.Prelude.{ℕ, ◌*◌, ◌/◌, ◌==◌, ◌&&◌, ◌||◌, not, nat_le, List, length, slice_get, Option, Some, None, Bool, true, false, is_some}
use Rattle.std.specs.List.{list_all, list_any}
use Rattle.dx_base.specs.Lists.{range_of}
use Rattle.dx_base.specs.Effects.{At}
use Rattle.dx_base.specs.declared.hresult.Hresult.{Hresult}
use Rattle.dx_base.specs.declared.hresult.Hresult.TheVariants.{InvalidArg, Fail}
use Rattle.dx_base.specs.declared.kinds.ListType.{ListType}
use Rattle.dx_base.specs.declared.kinds.ListType.TheVariants as type
use Rattle.d3d_machine.specs.declared.world.World.{World}
use Rattle.d3d_machine.specs.declared.calls.Call.{Call}
use Rattle.d3d_machine.specs.declared.calls.Call.TheVariants as call
use Rattle.d3d_machine.specs.declared.calls.Record.{Record}
use Rattle.d3d_machine.specs.declared.calls.Record.TheVariants.{Copy}
use Rattle.d3d_machine.specs.declared.calls.Reply.{Reply}
use Rattle.d3d_machine.specs.declared.calls.Reply.TheVariants as reply
use Rattle.d3d_machine.specs.declared.events.Listed.{Listed}
use Rattle.d3d_machine.specs.World.{resource_of, words_in, is_upload, is_readback, is_inside, overlaps}
use Rattle.d3d_machine.specs.CallEffects.{does}
use Rattle.d3d_machine.specs.State.{Desk, State, list_of, value_of, words_at, is_recording, is_closed_state}

-- the error where the test holds, and otherwise the refusals behind it
abbrev pub refuse_if : Bool → Hresult → Option Hresult → Option Hresult
refuse_if true e more = Some e
refuse_if false e more = more

abbrev pub same_type : ListType → ListType → Bool
same_type type.Direct type.Direct = true
same_type type.Direct type.Compute = false
same_type type.Direct type.Copy = false
same_type type.Compute type.Direct = false
same_type type.Compute type.Compute = true
same_type type.Compute type.Copy = false
same_type type.Copy type.Direct = false
same_type type.Copy type.Compute = false
same_type type.Copy type.Copy = true

abbrev pub same_types : Option ListType → Option ListType → Bool
same_types (Some a) (Some b) = same_type a b
same_types (Some a) None = false
same_types None (Some b) = false
same_types None None = false

-- a list records, or was last recorded, from that allocator
abbrev pub has_allocator : ℕ → Listed → Bool
has_allocator a x = elim x.allocator [ None ↦ false | Some b ↦ b.0 == a ]

-- a list is recording from that allocator
abbrev pub records_from : ℕ → Listed → Bool
records_from a x = is_recording x && has_allocator a x

-- a copy names live buffers, whole words and ranges inside them that do not overlap
abbrev pub is_copy : World → ℕ → ℕ → ℕ → ℕ → ℕ → Bool
is_copy w d doff s soff bytes =
    is_some (resource_of w d) && (is_some (resource_of w s) && (not (bytes == 0)
    && (is_inside (words_in w d) doff bytes && (is_inside (words_in w s) soff bytes
    && not ((d == s) && overlaps doff soff bytes)))))

-- the error of a recording call's arguments, where they have one
abbrev pub argument_error : World → Record → Option Hresult
argument_error w (Copy d doff s soff bytes) = refuse_if (not (is_copy w d.0 doff s.0 soff bytes)) InvalidArg None

-- the error that a recording call leaves in a recording list: a full list comes before a bad argument
abbrev pub record_error : World → Listed → Record → Option Hresult
record_error w x what = refuse_if (nat_le 1024 (length x.commands)) Fail (argument_error w what)

-- a list can be executed on that queue
abbrev pub is_fit : World → List Listed → ℕ → ℕ → Bool
is_fit w lists q l = is_closed_state (list_of lists l).state && same_types (slice_get w.lists l) (slice_get w.queues q)

-- why a call is refused, where it is, by the lists
abbrev pub refusal_by : World → List Listed → Call → Option Hresult
refusal_by w lists (call.Recording l what) = refuse_if (not (is_recording (list_of lists l.0))) Fail None
refusal_by w lists (call.Close l) = refuse_if (not (is_recording (list_of lists l.0))) Fail (list_of lists l.0).error
refusal_by w lists (call.Reset l a) =
    refuse_if (is_recording (list_of lists l.0)) Fail
    (refuse_if (list_any (records_from a.0) lists || not (same_types (slice_get w.lists l.0) (slice_get w.allocators a.0))) InvalidArg None)
refusal_by w lists (call.Execute q ls) = refuse_if (not (list_all (λ l. is_fit w lists q.0 l.0) ls)) Fail None
refusal_by w lists (call.Signal q f v) = None
refusal_by w lists (call.HostSignal f v) = None
refusal_by w lists (call.HostWait f v) = None
refusal_by w lists (call.Value f) = None
refusal_by w lists (call.Write b offset ws) =
    refuse_if (not (is_upload w b.0 && is_inside (words_in w b.0) offset (4 * length ws))) InvalidArg None
refusal_by w lists (call.Read b offset bytes) =
    refuse_if (not (is_readback w b.0 && (not (bytes == 0) && is_inside (words_in w b.0) offset bytes))) InvalidArg None

-- why a call is refused, where it is
abbrev pub refusal : World → Desk → Call → Option Hresult
refusal w d c = refusal_by w d.lists c

-- the value of a fence that is asked, the words that are read, or that the call is done
abbrev pub answer : State → Option ℕ → Option (At (ℕ × ℕ)) → Reply
answer s (Some f) r = reply.Value (value_of s.desk f)
answer s None (Some r) = reply.Words (range_of r.what.0 r.what.1 (words_at s.memory r.place))
answer s None None = reply.Done

-- what a call answers that is not refused
abbrev pub good_reply : State → Call → Reply
good_reply s c = answer s (does c).asks (does c).reads

abbrev pub reply_or : Option Hresult → Reply → Reply
reply_or None r = r
reply_or (Some e) r = reply.Error e

-- the reply of a call in a state
abbrev pub reply_of : World → State → Call → Reply
reply_of w s c = reply_or (refusal w s.desk c) (good_reply s c)
