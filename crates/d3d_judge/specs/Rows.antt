-- Worked rows: small runs that break a rule, or just keep it.
use Rattle.std.specs.Prelude.{ℕ, List, [], ◌∷◌, ◌++◌, map, true, false, Option, Some, None}
use Rattle.dx_base.specs.declared.kinds.Home.{Home}
use Rattle.dx_base.specs.declared.kinds.Home.TheVariants as home
use Rattle.dx_base.specs.declared.kinds.ListType.TheVariants as type
use Rattle.dx_flags.specs.declared.atoms.Kind.TheVariants as kind
use Rattle.dx_flags.specs.declared.atoms.Part.TheVariants as part
use Rattle.dx_flags.specs.declared.layouts.Layout.{Layout}
use Rattle.dx_flags.specs.declared.layouts.Layout.TheVariants as layout
use Rattle.dx_flags.specs.AccessNames as access
use Rattle.dx_flags.specs.AccessNames.{AccessName}
use Rattle.dx_flags.specs.Accesses.{one_access}
use Rattle.dx_flags.specs.SyncNames as sync
use Rattle.dx_flags.specs.SyncNames.{SyncName}
use Rattle.dx_flags.specs.Syncs.{one_sync}
use Rattle.enhanced_barriers.specs.declared.barriers.Scope.{Scope}
use Rattle.enhanced_barriers.specs.declared.barriers.Scope.TheVariants as scope
use Rattle.d3d_machine.specs.declared.calls.Call.{Call}
use Rattle.d3d_machine.specs.declared.calls.Call.TheVariants as call
use Rattle.d3d_machine.specs.declared.calls.Record.TheVariants.{Copy}
use Rattle.d3d_machine.specs.declared.calls.Reply.TheVariants as reply
use Rattle.d3d_machine.specs.declared.events.Event.{Event}
use Rattle.d3d_machine.specs.declared.events.Event.TheVariants as event
use Rattle.d3d_machine.specs.declared.world.Resource.TheVariants.{Buffer}
use Rattle.d3d_machine.specs.declared.world.World.{World}
use Rattle.verdicts.specs.declared.rules.Verdict.{Verdict}
use Rattle.d3d_judge.specs.Carried.{first_clocks}
use Rattle.d3d_judge.specs.Commands.{Range, Command, Accesses, Bars, copied_from, copied_to}
use Rattle.d3d_judge.specs.Judged.{judge_happenings}
use Rattle.d3d_judge.specs.Happenings.{Happening, Calls, Wakes, Completes, Gives, WaitsFor, Stores, Loads, Nothing, Executes, Signals, Waits}
use Rattle.d3d_judge.specs.Setting.{Setting, Traits}

-- Runs of worlds

-- two queues and two threads; an upload buffer u, a readback buffer b and enhanced buffers d and e, of four words each
abbrev pub small_world : World
small_world = record {
  queues = type.Direct ∷ type.Direct ∷ [];
  fences = 0 ∷ [];
  resources = Some (Buffer home.Upload 4) ∷ Some (Buffer home.Readback 4) ∷ Some (Buffer home.Enhanced 4) ∷ Some (Buffer home.Enhanced 4) ∷ [];
  allocators = type.Direct ∷ [];
  lists = type.Direct ∷ type.Direct ∷ [];
  scripts = [] ∷ [] ∷ [];
}

abbrev pub u : ℕ
u = 0

abbrev pub b : ℕ
b = 1

abbrev pub d : ℕ
d = 2

abbrev pub e : ℕ
e = 3

-- a call of a thread; replies play no part
abbrev pub calls : ℕ → Call → Event
calls t c = event.Call (record { 0 = t }) c reply.Done

abbrev pub completes : ℕ → Event
completes q = event.Queue (record { 0 = q })

abbrev pub wakes : ℕ → Event
wakes t = event.Awake (record { 0 = t })

-- copy the words from an offset on, in bytes, of one buffer to those of another
abbrev pub copy : ℕ → ℕ → ℕ → ℕ → ℕ → ℕ → Call
copy l to at from first bytes = call.Recording (record { 0 = l }) (Copy (record { 0 = to }) at (record { 0 = from }) first bytes)

-- thread 0 records copies into a list and closes it
abbrev pub records : ℕ → List Call → List Event
records l cs = calls 0 (call.Reset (record { 0 = l }) (record { 0 = 0 })) ∷ (recorded cs ++ calls 0 (call.Close (record { 0 = l })) ∷ []) where
  recorded : List Call → List Event
  recorded [] = []
  recorded (c ∷ more) = calls 0 c ∷ recorded more

abbrev pub execute : ℕ → ℕ → Call
execute q l = call.Execute (record { 0 = q }) ((record { 0 = l }) ∷ [])

abbrev pub signal : ℕ → ℕ → Call
signal q v = call.Signal (record { 0 = q }) (record { 0 = 0 }) v

abbrev pub host_wait : ℕ → Call
host_wait v = call.HostWait (record { 0 = 0 }) v

abbrev pub value : Call
value = call.Value (record { 0 = 0 })

abbrev pub read : ℕ → Call
read buffer = call.Read (record { 0 = buffer }) 0 16

abbrev pub write : Call
write = call.Write (record { 0 = u }) 0 (1 ∷ 2 ∷ 3 ∷ 4 ∷ [])

-- the words of u to b, to d and to e, and of e to u
abbrev pub u_to : ℕ → ℕ → Call
u_to l to = copy l to 0 u 0 16

-- a host read while the copy into its words has not completed: the copy does not know it
abbrev pub read_too_early : List Event
read_too_early = records 0 (u_to 0 b ∷ []) ++ (calls 0 (execute 0 0) ∷ calls 0 (read b) ∷ completes 0 ∷ [])

-- a host read behind the copy, which is not known
abbrev pub read_unknown : List Event
read_unknown = records 0 (u_to 0 b ∷ []) ++ (calls 0 (execute 0 0) ∷ completes 0 ∷ calls 0 (read b) ∷ [])

-- a host read behind a wait for the copy
abbrev pub read_behind_a_wait : List Event
read_behind_a_wait = calls 0 write ∷ (records 0 (u_to 0 b ∷ [])
    ++ (calls 0 (execute 0 0) ∷ calls 0 (signal 0 1) ∷ calls 0 (host_wait 1) ∷ completes 0 ∷ completes 0 ∷ wakes 0 ∷ calls 0 (read b) ∷ []))

-- a host read behind a value that tells of the copy, and behind one that does not yet
abbrev pub read_behind_a_value : List Event
read_behind_a_value = records 0 (u_to 0 b ∷ [])
    ++ (calls 0 (execute 0 0) ∷ calls 0 (signal 0 1) ∷ completes 0 ∷ completes 0 ∷ calls 1 value ∷ calls 1 (read b) ∷ [])

abbrev pub read_behind_an_older_value : List Event
read_behind_an_older_value = records 0 (u_to 0 b ∷ [])
    ++ (calls 0 (execute 0 0) ∷ calls 0 (signal 0 1) ∷ completes 0 ∷ calls 1 value ∷ completes 0 ∷ calls 1 (read b) ∷ [])

-- a wait knows the update that marked it, and no later one
abbrev pub marked_wait : ℕ → List Event
marked_wait buffer = records 0 (u_to 0 d ∷ []) ++ (records 1 (u_to 1 b ∷ [])
    ++ (calls 0 (execute 0 0) ∷ calls 0 (signal 0 1) ∷ calls 0 (execute 1 1) ∷ calls 0 (signal 1 2) ∷ calls 0 (host_wait 1)
    ∷ completes 0 ∷ completes 0 ∷ completes 1 ∷ completes 1 ∷ wakes 0 ∷ calls 0 (read buffer) ∷ []))

-- the same wait for the later update
abbrev pub marked_later : List Event
marked_later = records 0 (u_to 0 d ∷ []) ++ (records 1 (u_to 1 b ∷ [])
    ++ (calls 0 (execute 0 0) ∷ calls 0 (signal 0 1) ∷ calls 0 (execute 1 1) ∷ calls 0 (signal 1 2) ∷ calls 0 (host_wait 2)
    ∷ completes 0 ∷ completes 0 ∷ completes 1 ∷ completes 1 ∷ wakes 0 ∷ calls 0 (read b) ∷ []))

-- a refused read touches nothing, and counts as an event
abbrev pub refused_read : List Event
refused_read = records 0 (u_to 0 b ∷ []) ++ (calls 0 (execute 0 0) ∷ calls 0 (read d) ∷ completes 0 ∷ calls 0 (read b) ∷ [])

-- a host write while the copy from its words has not completed
abbrev pub write_too_early : List Event
write_too_early = records 0 (u_to 0 b ∷ []) ++ (calls 0 (execute 0 0) ∷ calls 0 write ∷ completes 0 ∷ [])

-- two queues write the words of one buffer
abbrev pub two_queues : List Event
two_queues = records 0 (u_to 0 d ∷ []) ++ (records 1 (u_to 1 d ∷ []) ++ (calls 0 (execute 0 0) ∷ calls 0 (execute 1 1) ∷ completes 0 ∷ completes 1 ∷ []))

-- the same where the second is called behind a wait for the first
abbrev pub two_queues_in_order : List Event
two_queues_in_order = records 0 (u_to 0 d ∷ []) ++ (records 1 (u_to 1 d ∷ [])
    ++ (calls 0 (execute 0 0) ∷ calls 0 (signal 0 1) ∷ calls 0 (host_wait 1) ∷ completes 0 ∷ completes 0 ∷ wakes 0 ∷ calls 0 (execute 1 1) ∷ completes 1 ∷ []))

-- two queues that read the words of one buffer
abbrev pub two_readers : List Event
two_readers = records 0 (u_to 0 d ∷ []) ++ (records 1 (u_to 1 e ∷ []) ++ (calls 0 (execute 0 0) ∷ calls 0 (execute 1 1) ∷ completes 0 ∷ completes 1 ∷ []))

-- one queue writes the words of one buffer in two executes
abbrev pub one_queue_twice : List Event
one_queue_twice = records 0 (u_to 0 d ∷ []) ++ (calls 0 (execute 0 0) ∷ calls 0 (execute 0 0) ∷ completes 0 ∷ completes 0 ∷ [])

-- a host write ends no read before it: thread 0 waits for a copy from u and writes u; an execute that knows none of this writes u
abbrev pub reads_stay : List Event
reads_stay = records 0 (u_to 0 d ∷ []) ++ (records 1 (copy 1 u 0 e 0 16 ∷ [])
    ++ (calls 0 (execute 0 0) ∷ calls 0 (signal 0 1) ∷ calls 1 (execute 1 1) ∷ calls 0 (host_wait 1) ∷ completes 0 ∷ completes 0 ∷ wakes 0 ∷ calls 0 write ∷ completes 1 ∷ []))

-- a list copies into the same words twice, and into different words
abbrev pub copies_twice : List Event
copies_twice = records 0 (u_to 0 b ∷ u_to 0 b ∷ []) ++ (calls 0 (execute 0 0) ∷ completes 0 ∷ [])

abbrev pub copies_halves : List Event
copies_halves = records 0 (copy 0 b 0 u 0 8 ∷ copy 0 b 8 u 8 8 ∷ []) ++ (calls 0 (execute 0 0) ∷ completes 0 ∷ [])

-- a copy into an upload buffer, and from a readback buffer
abbrev pub into_upload : List Event
into_upload = records 0 (copy 0 u 0 d 0 16 ∷ []) ++ (calls 0 (execute 0 0) ∷ completes 0 ∷ [])

abbrev pub from_readback : List Event
from_readback = records 0 (copy 0 d 0 b 0 16 ∷ []) ++ (calls 0 (execute 0 0) ∷ completes 0 ∷ [])

-- Runs with barriers and textures, by what happens in them

-- the resources of the small world, an enhanced texture x of 4 by 4 words, and one y of two subresources of that size, both in layout
-- COMMON
abbrev pub x : ℕ
x = 4

abbrev pub y : ℕ
y = 5

abbrev pub buffer : Home → ℕ → Traits
buffer h words = record { home = h; texture = false; shared = false; start = layout.Common; subs = words ∷ [] }

abbrev pub texture_setting : Setting
texture_setting = record {
  clocks = first_clocks small_world;
  resources = buffer home.Upload 256 ∷ buffer home.Readback 256 ∷ buffer home.Enhanced 4 ∷ buffer home.Enhanced 4
      ∷ (record { home = home.Enhanced; texture = true; shared = false; start = layout.Common; subs = 16 ∷ [] })
      ∷ (record { home = home.Enhanced; texture = true; shared = false; start = layout.Common; subs = 16 ∷ 16 ∷ [] }) ∷ [];
}

abbrev pub words_of : ℕ → ℕ → ℕ → Range
words_of r first words = record { resource = r; sub = 0; first = first; words = words }

-- copies between u and d
abbrev pub u_to_d : Command
u_to_d = Accesses part.Copy (copied_from (words_of u 0 4) ∷ copied_to (words_of d 0 4) ∷ [])

abbrev pub d_to_b : Command
d_to_b = Accesses part.Copy (copied_from (words_of d 0 4) ∷ copied_to (words_of b 0 4) ∷ [])

-- the texture from and to a buffer, by rows of four words that are 64 words apart
abbrev pub into_x : Command
into_x = Accesses part.Copy (copied_from (words_of u 0 4) ∷ copied_from (words_of u 64 4) ∷ copied_from (words_of u 128 4) ∷ copied_from (words_of u 192 4)
    ∷ copied_to (words_of x 0 16) ∷ [])

abbrev pub out_of_x : Command
out_of_x = Accesses part.Copy (copied_from (words_of x 0 16) ∷ copied_to (words_of b 0 4) ∷ copied_to (words_of b 64 4) ∷ copied_to (words_of b 128 4)
    ∷ copied_to (words_of b 192 4) ∷ [])

-- a subresource of y from a buffer and to one, its rows one behind the other
abbrev pub sub_of_y : ℕ → Range
sub_of_y sub = record { resource = y; sub = sub; first = 0; words = 16 }

abbrev pub into_y : ℕ → Command
into_y sub = Accesses part.Copy (copied_from (words_of u 0 16) ∷ copied_to (sub_of_y sub) ∷ [])

abbrev pub out_of_y : ℕ → Command
out_of_y sub = Accesses part.Copy (copied_from (sub_of_y sub) ∷ copied_to (words_of b 0 16) ∷ [])

-- a barrier with its two sides
abbrev pub barrier : Scope → SyncName → SyncName → AccessName → AccessName → Layout → Layout → Command
barrier what sync_before sync_after access_before access_after before after = Bars (record {
  scope = what;
  sync_before = one_sync sync_before;
  sync_after = one_sync sync_after;
  access_before = one_access access_before;
  access_after = one_access access_after;
  layout_before = before;
  layout_after = after;
})

-- a barrier of the texture between copies, and one with nothing before it
abbrev pub x_written_to_read : Layout → Layout → Command
x_written_to_read before after = barrier (scope.Texture (record { 0 = x }) (Some 0)) sync.COPY sync.COPY access.COPY_DEST access.COPY_SOURCE before after

abbrev pub x_from_none : Layout → Layout → Command
x_from_none before after = barrier (scope.Texture (record { 0 = x }) (Some 0)) sync.NONE sync.COPY access.NO_ACCESS access.COPY_SOURCE before after

-- a layout change from UNDEFINED behind which all accesses are covered
abbrev pub x_to_any : Layout → Command
x_to_any after = barrier (scope.Texture (record { 0 = x }) None) sync.NONE sync.ALL access.NO_ACCESS access.COMMON layout.Undefined after

-- a dispatch that writes the texture through a view
abbrev pub view_of_x : Command
view_of_x = Accesses part.Compute (record { range = words_of x 0 16; kind = kind.UnorderedAccess; reads = false; writes = true } ∷ [])

-- a barrier of one subresource of y or of all, between copies
abbrev pub y_written_to_read : Option ℕ → Layout → Command
y_written_to_read sub before = barrier (scope.Texture (record { 0 = y }) sub) sync.COPY sync.COPY access.COPY_DEST access.COPY_SOURCE before layout.Common

-- barriers of d, of the other buffer, and of all
abbrev pub d_written_to : AccessName → Command
d_written_to kind = barrier (scope.Buffer (record { 0 = d })) sync.COPY sync.COPY access.COPY_DEST kind layout.Common layout.Common

abbrev pub e_written_to : AccessName → Command
e_written_to kind = barrier (scope.Buffer (record { 0 = e })) sync.COPY sync.COPY access.COPY_DEST kind layout.Common layout.Common

abbrev pub all_written_to : SyncName → Command
all_written_to after = barrier scope.Global sync.COPY after access.COPY_DEST access.COMMON layout.Common layout.Common

-- a barrier of all that neither has a write of a copy before it, nor what a shader does
abbrev pub all_read : Command
all_read = barrier scope.Global sync.COPY sync.COPY access.COPY_SOURCE access.COPY_SOURCE layout.Common layout.Common

abbrev pub all_from : SyncName → Command
all_from before = barrier scope.Global before sync.COPY access.COMMON access.COMMON layout.Common layout.Common

-- the calls that record commands into a list and close it, which nothing here reads
abbrev pub recording : List Command → List Happening
recording cs = Calls 0 Nothing ∷ Calls 0 Nothing ∷ map (λ _. Calls 0 Nothing) cs

-- what is said of one execute of commands: they are recorded, called, and complete
abbrev pub judge_scope : List Command → Verdict
judge_scope cs = judge_happenings texture_setting (recording cs ++ (Calls 0 (Gives 0 (Executes cs)) ∷ Completes 0 ∷ []))

-- the whole way of words: written, copied into the texture, and out of it, with a wait behind
abbrev pub whole_way : Verdict
whole_way = judge_happenings texture_setting
    (Calls 0 (Stores (words_of u 0 4)) ∷ (recording (into_x ∷ x_written_to_read layout.Common layout.CopySource ∷ out_of_x ∷ [])
    ++ (Calls 0 (Gives 0 (Executes (into_x ∷ x_written_to_read layout.Common layout.CopySource ∷ out_of_x ∷ [])))
    ∷ Calls 0 (Gives 0 (Signals 0 1)) ∷ Calls 0 (WaitsFor 0 1) ∷ Completes 0 ∷ Completes 0 ∷ Wakes 0 ∷ Calls 0 (Loads (words_of b 0 4)) ∷ [])))

-- what is said of executes on two queues, of which the second does not know the first
abbrev pub judge_two : List Command → List Command → Verdict
judge_two cs ds = judge_happenings texture_setting (Calls 0 (Gives 0 (Executes cs)) ∷ Calls 0 (Gives 1 (Executes ds)) ∷ Completes 0 ∷ Completes 1 ∷ [])

-- the same where the second queue waits for a signal behind the first
abbrev pub judge_two_in_order : List Command → List Command → Verdict
judge_two_in_order cs ds = judge_happenings texture_setting
    (Calls 0 (Gives 0 (Executes cs)) ∷ Calls 0 (Gives 0 (Signals 0 1)) ∷ Calls 1 (Gives 1 (Waits 0 1)) ∷ Calls 1 (Gives 1 (Executes ds))
    ∷ Completes 0 ∷ Completes 0 ∷ Completes 1 ∷ Completes 1 ∷ [])

-- a copy of no words from the middle of d
abbrev pub nothing_of_d : Command
nothing_of_d = Accesses part.Copy (copied_from (words_of d 2 0) ∷ copied_to (words_of b 0 0) ∷ [])

-- a command of which two accesses share a word
abbrev pub within_d : Command
within_d = Accesses part.Copy (copied_from (words_of d 0 3) ∷ copied_to (words_of d 2 2) ∷ [])
