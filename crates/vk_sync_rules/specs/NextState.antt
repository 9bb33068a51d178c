-- What a step does to the state of the Vulkan machine.
use Rattle.std.specs.Prelude.{ℕ, ◌+◌, Bool, true, false, ◌&&◌, ◌||◌, ◌==◌, nat_lt, nat_le, List, [], ◌∷◌, ◌++◌, map, length, take, drop, replicate, slice_set, Option, Some, None, if◌then◌else◌}
use Rattle.std.specs.List.{list_all, list_any, flat_map}
use Rattle.dx_base.specs.Lists.{changed_at}
use Rattle.dx_base.specs.declared.kinds.Class.TheVariants.{Uav}
pub use Rattle.vk_types.specs.Timelines.{after_sets}
use Rattle.vk_types.specs.declared.accesses.Accesses.{Accesses}
use Rattle.vk_types.specs.declared.batches.Batch.{Batch}
use Rattle.vk_types.specs.declared.commands.VkCommand.{VkCommand}
use Rattle.vk_types.specs.declared.commands.VkCommand.TheVariants.{Barrier, Copy, CopyImage, CopyIn, CopyOut, Clear, Dispatch}
use Rattle.vk_types.specs.declared.layouts.Change.{Change}
use Rattle.vk_types.specs.declared.layouts.VkLayout.{VkLayout}
use Rattle.vk_types.specs.declared.layouts.VkLayout.TheVariants.{Undefined, General, ShaderReadOnlyOptimal, TransferSrcOptimal, TransferDstOptimal}
use Rattle.vk_types.specs.declared.stages.Stages.{Stages}
use Rattle.vk_types.specs.declared.steps.VkStep.{VkStep}
use Rattle.vk_types.specs.declared.steps.VkStep.TheVariants.{Submit, Pass, Command, Bump, HostWrite, HostRead, Update}
use Rattle.vk_sync_rules.specs.declared.accesses.DoneAccess.{DoneAccess}
use Rattle.vk_sync_rules.specs.declared.accesses.Maker.{Maker}
use Rattle.vk_sync_rules.specs.declared.counts.Counts.{Counts}
use Rattle.vk_sync_rules.specs.declared.places.Place.{Place}
use Rattle.vk_sync_rules.specs.declared.ranges.VkResource.{VkResource}
use Rattle.vk_sync_rules.specs.declared.ranges.VkResource.TheVariants.{Buffer, Image}
use Rattle.vk_sync_rules.specs.declared.ranges.WordRange.{WordRange}
use Rattle.vk_sync_rules.specs.AccessSets.{is_some_access, no_accesses, no_stages, copy_reads}
use Rattle.vk_sync_rules.specs.DoneAccesses.{across, after_pass, after_bump, after_submit, last_write, sees}
use Rattle.vk_sync_rules.specs.Numbers.{Numbers, numbers_in, stored, opened, opened_all}
use Rattle.vk_sync_rules.specs.Orders.{sort_of}
use Rattle.vk_sync_rules.specs.Commands.{pieces, change_of, subs_of, passes_end}
use Rattle.vk_sync_rules.specs.Copies.{CopiedRow, copied_rows}
use Rattle.vk_sync_rules.specs.Dispatches.{views_of, after_dispatch}
use Rattle.vk_sync_rules.specs.Pieces.{Piece, made_by, written_ranges}
use Rattle.vk_sync_rules.specs.Registers.{answer_of, slots_of, words_of_register}
use Rattle.vk_sync_rules.specs.VkState.{VkState, command_at, batch_in}
use Rattle.vk_sync_rules.specs.Sizes.{words_in}
use Rattle.vk_types.specs.declared.plan.DevicePlan.{DevicePlan}

-- a command at a place sees the last write of a word, if there is one
abbrev pub is_seen : VkState → ℕ → Stages → Accesses → Place → VkResource → ℕ → Bool
is_seen v q stage reads here resource word = elim (last_write resource word v.accesses) [ None ↦ true | Some w ↦ sees q stage reads here w ]

-- numbers of words, the first of which is this; any number where a test of the word fails
abbrev pub where_seen : (ℕ → Bool) → ℕ → List (Option ℕ) → List (Option ℕ)
where_seen test word [] = []
where_seen test word (n ∷ ns) = (if test word then n else None) ∷ where_seen test (word + 1) ns

-- the numbers that a command reads in a range: those of the last writes that it sees
abbrev pub numbers_read : VkState → ℕ → Stages → Accesses → Place → WordRange → List (Option ℕ)
numbers_read v q stage reads here range =
    where_seen (is_seen v q stage reads here range.resource) range.first (take range.count (drop range.first (numbers_in v.numbers range.resource)))

-- the numbers after rows were copied, all read before the first is written
abbrev pub rows_stored : VkState → ℕ → Stages → Place → List CopiedRow → Numbers → Numbers
rows_stored v q stage here [] m = m
rows_stored v q stage here (row ∷ rows) m = rows_stored v q stage here rows (stored row.to (numbers_read v q stage copy_reads here row.from) m)

-- a layout is UNDEFINED
abbrev pub is_undefined : VkLayout → Bool
is_undefined Undefined = true
is_undefined General = false
is_undefined ShaderReadOnlyOptimal = false
is_undefined TransferSrcOptimal = false
is_undefined TransferDstOptimal = false

-- the words of a subresource
abbrev pub whole_sub : DevicePlan → ℕ → ℕ → WordRange
whole_sub plan i s = record { resource = Image i s; first = 0; count = words_in plan (Image i s) }

-- the numbers after a layout change: from UNDEFINED any may stand (Vulkan 1.3, 7.7: image layout transitions)
abbrev pub numbers_changed : VkState → Change → Numbers → Numbers
numbers_changed v c m = if is_undefined c.old then opened_all (map (whole_sub v.plan c.image) (subs_of v.plan c)) m else m

-- a number is not known
abbrev pub is_open : Option ℕ → Bool
is_open None = true
is_open (Some n) = false

-- a command reads a word in which any number may stand, or does not see one that it reads
abbrev pub reads_open : VkState → ℕ → Stages → Place → Piece → Bool
reads_open v q stage here p = is_some_access p.reads && list_any is_open (numbers_read v q stage p.reads here p.range)

-- the numbers after the rows of a copy
abbrev pub numbers_copied : VkState → ℕ → Place → VkCommand → Numbers
numbers_copied v q here c = rows_stored v q (sort_of c).takes here (copied_rows v.plan c) v.numbers

-- the numbers after a clear: its word in all words of its view
abbrev pub after_clear : Option WordRange → ℕ → Numbers → Numbers
after_clear None word m = m
after_clear (Some range) word m = stored range (replicate range.count (Some word)) m

-- the numbers after a command that passes no end. A copy hands numbers on word by word, known or not. A routine that reads a
-- word in which any number may stand leaves any number in each word that it may write
abbrev pub numbers_written : VkState → ℕ → Place → List ℕ → VkCommand → Numbers
numbers_written v q here loaded (Barrier from made to seen None) = v.numbers
numbers_written v q here loaded (Barrier from made to seen (Some c)) = numbers_changed v c v.numbers
numbers_written v q here loaded (Copy to to_first from from_first words) = numbers_copied v q here (Copy to to_first from from_first words)
numbers_written v q here loaded (CopyImage to to_sub to_layout from from_sub from_layout) = numbers_copied v q here (CopyImage to to_sub to_layout from from_sub from_layout)
numbers_written v q here loaded (CopyIn image sub layout buffer first pitch) = numbers_copied v q here (CopyIn image sub layout buffer first pitch)
numbers_written v q here loaded (CopyOut buffer first pitch image sub layout) = numbers_copied v q here (CopyOut buffer first pitch image sub layout)
numbers_written v q here loaded (Clear target word) =
    after_clear (words_of_register v.plan (answer_of (slots_of (Clear target word)) loaded) Uav target) word v.numbers
numbers_written v q here loaded (Dispatch routine count t0 t1 u0 b0) =
    let c : VkCommand = Dispatch routine count t0 t1 u0 b0 in
    if list_any (reads_open v q (sort_of c).takes here) (pieces v.plan loaded c) then opened_all (written_ranges (pieces v.plan loaded c)) v.numbers
    else after_dispatch routine count (views_of v.plan (answer_of (slots_of c) loaded) t0 t1 u0 b0) b0 v.numbers

-- the numbers after a command; past an end, any may stand in the words of its destination
abbrev pub numbers_after : VkState → ℕ → Place → List ℕ → VkCommand → Numbers
numbers_after v q here loaded c =
    if passes_end v.plan loaded c then opened_all (written_ranges (pieces v.plan loaded c)) v.numbers else numbers_written v q here loaded c

-- the access of a change of one subresource: a write in no stage, which is available, and ordered before and seen by the second
-- scope of its barrier (Vulkan 1.3, 7.7)
abbrev pub change_made : VkState → ℕ → Place → Stages → Accesses → ℕ → ℕ → DoneAccess
change_made v q p to seen i s = record {
  range = whole_sub v.plan i s;
  writes = true;
  access = no_accesses;
  by = Some (record { queue = q; place = p; stage = no_stages });
  gains = record { queue = q; place = p; stages = to; accesses = seen; available = true } ∷ [];
  signals = [];
  available = true;
}

-- the accesses of the change of a barrier
abbrev pub changes_made : VkState → ℕ → Place → VkCommand → List DoneAccess
changes_made v q p (Barrier from made to seen None) = []
changes_made v q p (Barrier from made to seen (Some c)) = map (change_made v q p to seen c.image) (subs_of v.plan c)
changes_made v q p (Copy to to_first from from_first words) = []
changes_made v q p (CopyImage to to_sub to_layout from from_sub from_layout) = []
changes_made v q p (CopyIn image sub layout buffer first pitch) = []
changes_made v q p (CopyOut buffer first pitch image sub layout) = []
changes_made v q p (Clear target word) = []
changes_made v q p (Dispatch routine count t0 t1 u0 b0) = []

-- who makes the accesses of a command's pieces
abbrev pub maker_of : ℕ → Place → VkCommand → Maker
maker_of q p c = record { queue = q; place = p; stage = (sort_of c).gives }

-- the accesses that a command makes at a place; one that passes an end makes none
abbrev pub made_at : VkState → ℕ → Place → List ℕ → VkCommand → List DoneAccess
made_at v q p loaded c =
    if passes_end v.plan loaded c then [] else changes_made v q p c ++ flat_map (made_by (maker_of q p c)) (pieces v.plan loaded c)

-- what a command does to an access that was made
abbrev pub kept_by : ℕ → Place → VkCommand → DoneAccess → DoneAccess
kept_by q p (Barrier from made to seen change) r = across q p from made to seen r
kept_by q p (Copy to to_first from from_first words) r = r
kept_by q p (CopyImage to to_sub to_layout from from_sub from_layout) r = r
kept_by q p (CopyIn image sub layout buffer first pitch) r = r
kept_by q p (CopyOut buffer first pitch image sub layout) r = r
kept_by q p (Clear target word) r = r
kept_by q p (Dispatch routine count t0 t1 u0 b0) r = r

-- the layouts of an image after a change of some subresources
abbrev pub with_layout : VkLayout → List ℕ → List VkLayout → List VkLayout
with_layout lay [] ls = ls
with_layout lay (s ∷ ss) ls = with_layout lay ss (slice_set ls s lay)

-- the layouts after a command
abbrev pub layouts_after : VkState → VkCommand → List (List VkLayout)
layouts_after v c = elim (change_of c) [ None ↦ v.layouts | Some change ↦ changed_at (with_layout change.new (subs_of v.plan change)) change.image v.layouts ]

-- what a command, if there is one, does
abbrev pub after_run : VkState → ℕ → Place → List ℕ → Option VkCommand → VkState
after_run v q p loaded None = v
after_run v q p loaded (Some c) = record v {
  numbers = numbers_after v q p loaded c;
  layouts = if passes_end v.plan loaded c then v.layouts else layouts_after v c;
  done = record { queue = q; place = p } ∷ v.done;
  accesses = map (kept_by q p c) v.accesses ++ made_at v q p loaded c;
}

-- the waits and sets of a batch that may be missing
abbrev pub waits_in : Option Batch → List (ℕ × ℕ)
waits_in b = elim b [ None ↦ [] | Some b ↦ b.waits ]

abbrev pub sets_in : Option Batch → List (ℕ × ℕ)
sets_in b = elim b [ None ↦ [] | Some b ↦ b.sets ]

-- no batch that passed is unfinished
abbrev pub is_idle : Counts → Bool
is_idle c = nat_le c.passed c.ended

-- the words that the host touches
abbrev pub host_range : ℕ → ℕ → ℕ → WordRange
host_range buffer first count = record { resource = Buffer buffer; first = first; count = count }

-- the host passes the end of a buffer
abbrev pub host_passes_end : VkState → ℕ → ℕ → ℕ → Bool
host_passes_end v buffer first count = nat_lt (words_in v.plan (Buffer buffer)) (first + count)

-- one access of the host
abbrev pub host_access : Bool → ℕ → ℕ → ℕ → DoneAccess
host_access writes buffer first count = record {
  range = host_range buffer first count;
  writes = writes;
  access = no_accesses;
  by = None;
  gains = [];
  signals = [];
  available = writes;
}

-- the accesses of the host; none past an end, and none of no words
abbrev pub host_made : VkState → Bool → ℕ → ℕ → ℕ → List DoneAccess
host_made v writes buffer first count =
    if host_passes_end v buffer first count || (count == 0) then [] else host_access writes buffer first count ∷ []

-- the numbers after the host wrote; past an end, any may stand in the words that are there
abbrev pub host_written : VkState → ℕ → ℕ → List ℕ → Numbers
host_written v buffer first words =
    if host_passes_end v buffer first (length words) then opened (host_range buffer first (length words)) v.numbers
    else stored (host_range buffer first (length words)) (map (λ (w : ℕ). Some w) words) v.numbers

-- what a step does, whether it breaks a rule or not
abbrev pub moved : VkState → VkStep → VkState
moved v (Submit b) = record v {
  journal = v.journal ++ b ∷ [];
  queues = changed_at (λ c. record c { submitted = b.number + 1 }) b.queue v.queues;
  accesses = map (after_submit b.queue b.number) v.accesses;
}
moved v (Pass q n) = record v {
  queues = changed_at (λ c. record c { passed = n + 1 }) q v.queues;
  accesses = map (after_pass q n (waits_in (batch_in q n v.journal))) v.accesses;
  serial = v.serial && list_all is_idle v.queues;
}
moved v (Command q n k loaded) = after_run v q (record { number = n; index = k }) loaded (command_at v q (record { number = n; index = k }))
moved v (Bump q n) = record v {
  timelines = after_sets (sets_in (batch_in q n v.journal)) v.timelines;
  queues = changed_at (λ c. record c { ended = n + 1 }) q v.queues;
  accesses = map (after_bump q n (sets_in (batch_in q n v.journal))) v.accesses;
}
moved v (HostWrite buffer first words) = record v {
  numbers = host_written v buffer first words;
  accesses = v.accesses ++ host_made v true buffer first (length words);
}
moved v (HostRead buffer first words) = record v { accesses = v.accesses ++ host_made v false buffer first (length words) }
moved v (Update heap slot) = v
