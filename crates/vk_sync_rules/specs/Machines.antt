-- What the code of the Vulkan machine stores, as its state.
use Rattle.std.specs.Prelude.{ℕ, Bool, true, not, ◌==◌, ◌&&◌, ◌||◌, length, map, nat_lt, slice_index_or, replicate, List, [], ◌∷◌, ◌++◌, Option, Some, None, if◌then◌else◌}
use Rattle.std.specs.List.{flat_map, list_all, list_any}
use Rattle.vk_sync_rules.specs.declared.machine.VkMachine.{VkMachine}
use Rattle.vk_sync_rules.specs.declared.numbers.NumberTable.{NumberTable}
use Rattle.vk_sync_rules.specs.declared.orders.CommandSort.{CommandSort}
use Rattle.vk_sync_rules.specs.Numbers.{Numbers}
use Rattle.vk_sync_rules.specs.declared.slots.Slots.{Slots}
use Rattle.vk_sync_rules.specs.Orders.{Sort, sort_of}
use Rattle.vk_sync_rules.specs.Registers.{answer_of, same_slot, slots_of, words_of_register}
use Rattle.vk_sync_rules.specs.AccessSets.{host_stage, host_reads, no_accesses, no_stages}
use Rattle.vk_sync_rules.specs.DoneAccesses.{is_host, last_write, sees, start_of}
use Rattle.vk_sync_rules.specs.Numbers.{opened_all, up_to}
use Rattle.vk_sync_rules.specs.Ranges.{overlap}
use Rattle.vk_sync_rules.specs.Rules.{is_near, is_host_ordered, least, some_collide, is_in_order, is_change_unordered, is_wrong_layout, is_wrong_change, is_unsupported}
use Rattle.vk_sync_rules.specs.declared.accesses.DoneAccess.{DoneAccess}
use Rattle.vk_sync_rules.specs.declared.ranges.WordRange.{WordRange}
use Rattle.vk_sync_rules.specs.declared.counts.Counts.{Counts}
use Rattle.vk_sync_rules.specs.Sizes.{sub_count}
use Rattle.vk_types.specs.declared.layouts.VkLayout.{VkLayout}
use Rattle.vk_types.specs.declared.layouts.VkLayout.TheVariants.{Undefined}
use Rattle.vk_types.specs.declared.plan.PlanBuffer.{PlanBuffer}
use Rattle.vk_types.specs.declared.plan.PlanImage.{PlanImage}
use Rattle.vk_types.specs.declared.batches.Batch.{Batch}
use Rattle.vk_types.specs.declared.accesses.Accesses.{Accesses}
use Rattle.vk_types.specs.declared.commands.VkCommand.{VkCommand}
use Rattle.vk_types.specs.declared.layouts.Change.{Change}
use Rattle.vk_types.specs.declared.plan.DevicePlan.{DevicePlan}
use Rattle.vk_types.specs.declared.registers.Count.{Count}
use Rattle.vk_types.specs.declared.registers.Register.{Register}
use Rattle.vk_types.specs.declared.stages.Stages.{Stages}
use Rattle.dx_base.specs.declared.kinds.Routine.{Routine}
use Rattle.vk_sync_rules.specs.declared.places.Place.{Place}
use Rattle.vk_sync_rules.specs.declared.ranges.VkResource.{VkResource}
use Rattle.vk_sync_rules.specs.declared.rules.VkRule.{VkRule}
use Rattle.vk_sync_rules.specs.declared.rules.VkRule.TheVariants.{V1, V2, V3, V7, V8}
use Rattle.vk_sync_rules.specs.Commands.{lacks_sub}
use Rattle.vk_sync_rules.specs.Dispatches.{DispatchViews, after_dispatch, views_of}
use Rattle.vk_sync_rules.specs.Copies.{copied_rows}
use Rattle.vk_sync_rules.specs.NextState.{after_clear, changes_made, maker_of, numbers_changed, reads_open, rows_stored, whole_sub}
use Rattle.vk_sync_rules.specs.Pieces.{Piece, is_outside, made_by, written_ranges}
use Rattle.dx_base.specs.declared.kinds.Class.TheVariants.{Uav}
use Rattle.vk_types.specs.declared.commands.VkCommand.TheVariants.{Barrier, Copy, CopyImage, CopyIn, CopyOut, Clear, Dispatch}
use Rattle.vk_sync_rules.specs.declared.verdicts.VkVerdict.{VkVerdict}
use Rattle.vk_sync_rules.specs.declared.verdicts.VkVerdict.TheVariants.{Clean, Broken}
use Rattle.vk_sync_rules.specs.Progress.{journal_of}
use Rattle.vk_sync_rules.specs.VkState.{VkState, no_counts}

-- the numbers of a table
abbrev pub numbers_of : NumberTable → Numbers
numbers_of table = record { buffers = table.buffers; images = table.images }

-- the state of the Vulkan machine
abbrev pub state_of : VkMachine → VkState
state_of machine = record {
  plan = machine.plan;
  numbers = numbers_of machine.numbers;
  layouts = machine.layouts;
  timelines = machine.progress.timelines;
  journal = journal_of machine.progress;
  queues = machine.progress.lanes;
  done = machine.done;
  accesses = machine.accesses;
  broken = machine.broken;
  serial = machine.serial;
}

-- the sort of a command
abbrev pub sort_in : CommandSort → Sort
sort_in sort = record { is_barrier = sort.is_barrier; takes = sort.takes; gives = sort.gives }

-- a slot that is there or not, as a list
abbrev pub listed : Option (ℕ × ℕ) → List (ℕ × ℕ)
listed None = []
listed (Some slot) = slot ∷ []

-- a slot that none of a list is
abbrev pub new_slot : Option (ℕ × ℕ) → List (ℕ × ℕ) → Option (ℕ × ℕ)
new_slot None before = None
new_slot (Some slot) before = if list_any (same_slot slot) before then None else Some slot

-- the slots of a command
abbrev pub slots_in_all : Slots → List (ℕ × ℕ)
slots_in_all slots = listed slots.first ++ (listed slots.second ++ (listed slots.third ++ (listed slots.fourth ++ [])))

-- a pair is of another timeline, or lower
abbrev pub is_below : ℕ × ℕ → ℕ × ℕ → Bool
is_below pair other = not (other.0 == pair.0) || nat_lt other.1 pair.1

-- a pair is of another timeline, or near
abbrev pub is_near_it : ℕ × ℕ → ℕ × ℕ → Bool
is_near_it pair other = not (other.0 == pair.0) || is_near pair.1 other.1

-- what a batch has still to set, and to wait for
abbrev pub sets_left : List Counts → Batch → List (ℕ × ℕ)
sets_left queues batch = if nat_lt batch.number (slice_index_or queues batch.queue no_counts).ended then [] else batch.sets

abbrev pub waits_left : List Counts → Batch → List (ℕ × ℕ)
waits_left queues batch = if nat_lt batch.number (slice_index_or queues batch.queue no_counts).passed then [] else batch.waits

-- the counts of a queue with one of them set
abbrev pub with_submitted : ℕ → Counts → Counts
with_submitted next counts = record counts { submitted = next }

abbrev pub with_passed : ℕ → Counts → Counts
with_passed next counts = record counts { passed = next }

abbrev pub with_ended : ℕ → Counts → Counts
with_ended next counts = record counts { ended = next }

-- the numbers of a buffer at first, and the layouts of an image
abbrev pub zeros_of_buffer : PlanBuffer → List (Option ℕ)
zeros_of_buffer buffer = replicate buffer.words (Some 0)

abbrev pub first_layouts_of : PlanImage → List VkLayout
first_layouts_of image = replicate (sub_count image) Undefined

-- a write is visible to the host at the place of a queue up to which its batches have ended
abbrev pub is_shown_in : List Counts → DoneAccess → ℕ → Bool
is_shown_in queues w q = sees q host_stage host_reads (start_of (slice_index_or queues q no_counts).ended) w

-- the host sees a write
abbrev pub is_host_seen_by : List Counts → DoneAccess → Bool
is_host_seen_by queues w = is_host w || list_any (is_shown_in queues w) (up_to 0 (length queues))

-- a host access of a range is ordered after an access, or need not be
abbrev pub is_clear_for_write : WordRange → DoneAccess → Bool
is_clear_for_write range r = not (overlap range r.range) || is_host_ordered r

abbrev pub is_clear_for_read : WordRange → DoneAccess → Bool
is_clear_for_read range r = not (overlap range r.range && r.writes) || is_host_ordered r

-- numbers that are known
abbrev pub known_numbers : List ℕ → List (Option ℕ)
known_numbers words = map (λ (w : ℕ). Some w) words

-- what the loads of slots answered for one, where it is the first of them; none where it is another
abbrev pub told : Option (ℕ × ℕ) → List ℕ → ℕ × ℕ → Option ℕ
told None answers s = None
told (Some x) [] s = Some 0
told (Some x) (a ∷ answers) s = if same_slot x s then Some a else None

-- the answers behind that of a slot
abbrev pub answers_behind : Option (ℕ × ℕ) → List ℕ → List ℕ
answers_behind None answers = answers
answers_behind (Some x) [] = []
answers_behind (Some x) (a ∷ answers) = answers

-- the first of an answer and another one
abbrev pub answer_or : Option ℕ → ℕ → ℕ
answer_or None a = a
answer_or (Some b) a = b

-- a command passes an end, where its change and its pieces are given
abbrev pub passes_end_by : DevicePlan → Option Change → List Piece → Bool
passes_end_by plan change ps = elim change [ None ↦ list_any (is_outside plan) ps | Some c ↦ lacks_sub plan c ]

-- V1 of a command whose pieces are given
abbrev pub is_unordered_by : VkState → ℕ → Place → List Piece → VkCommand → Bool
is_unordered_by v q here ps c =
    is_change_unordered v q here c || (some_collide ps || not (list_all (is_in_order v.accesses q (sort_of c).takes here) ps))

-- the least rule that a command breaks, where its pieces are given, and whether it passes an end
abbrev pub rule_by : VkState → ℕ → Place → Bool → List Piece → VkCommand → Option VkRule
rule_by v q here outside ps c =
    if outside then Some V7
    else least ((V1, is_unordered_by v q here ps c) ∷ (V2, list_any (is_wrong_layout v) ps) ∷ (V3, is_wrong_change v c) ∷ (V8, is_unsupported c) ∷ [])

-- a command sees the last write of a word, if there is one
abbrev pub is_seen_in : List DoneAccess → ℕ → Stages → Accesses → Place → VkResource → ℕ → Bool
is_seen_in accesses q stage reads here resource word = elim (last_write resource word accesses) [ None ↦ true | Some w ↦ sees q stage reads here w ]

-- the accesses of a command whose pieces are given
abbrev pub made_by_pieces : VkState → ℕ → Place → Bool → List Piece → VkCommand → List DoneAccess
made_by_pieces v q p outside ps c = if outside then [] else changes_made v q p c ++ flat_map (made_by (maker_of q p c)) ps

-- the numbers after a dispatch whose pieces are given
abbrev pub dispatched : VkState → ℕ → Place → List Piece → Routine → Count → DispatchViews → Register → Stages → Numbers → Numbers
dispatched v q here ps routine count views b0 stage m =
    if list_any (reads_open v q stage here) ps then opened_all (written_ranges ps) m else after_dispatch routine count views b0 m

-- the access of a change of one subresource
abbrev pub change_access : DevicePlan → ℕ → Place → Stages → Accesses → ℕ → ℕ → DoneAccess
change_access plan q p to seen i s = record {
  range = whole_sub plan i s;
  writes = true;
  access = no_accesses;
  by = Some (record { queue = q; place = p; stage = no_stages });
  gains = record { queue = q; place = p; stages = to; accesses = seen; available = true } ∷ [];
  signals = [];
  available = true;
}

-- the numbers after the rows of a copy; as they were after another command
abbrev pub rows_copied : VkState → ℕ → Place → VkCommand → Numbers → Numbers
rows_copied v q here c m = rows_stored v q (sort_of c).takes here (copied_rows v.plan c) m

-- the numbers after what else a command does than to copy rows, where it passes no end and its pieces are given
abbrev pub others_written : VkState → ℕ → Place → List ℕ → List Piece → VkCommand → Numbers → Numbers
others_written v q here loaded ps (Barrier from made to seen None) m = m
others_written v q here loaded ps (Barrier from made to seen (Some c)) m = numbers_changed v c m
others_written v q here loaded ps (Copy to to_first from from_first words) m = m
others_written v q here loaded ps (CopyImage to to_sub to_layout from from_sub from_layout) m = m
others_written v q here loaded ps (CopyIn image sub layout buffer first pitch) m = m
others_written v q here loaded ps (CopyOut buffer first pitch image sub layout) m = m
others_written v q here loaded ps (Clear target word) m =
    after_clear (words_of_register v.plan (answer_of (slots_of (Clear target word)) loaded) Uav target) word m
others_written v q here loaded ps (Dispatch routine count t0 t1 u0 b0) m =
    let c : VkCommand = Dispatch routine count t0 t1 u0 b0 in
    dispatched v q here ps routine count (views_of v.plan (answer_of (slots_of c) loaded) t0 t1 u0 b0) b0 (sort_of c).takes m

-- the numbers after a command, where its pieces are given, and whether it passes an end
abbrev pub numbers_after_by : VkState → ℕ → Place → Bool → List ℕ → List Piece → VkCommand → Numbers → Numbers
numbers_after_by v q here outside loaded ps c m = if outside then opened_all (written_ranges ps) m else others_written v q here loaded ps c (rows_copied v q here c m)

-- the verdict on a step that breaks a rule, or none
abbrev pub verdict_of : Option VkRule → VkVerdict
verdict_of None = Clean
verdict_of (Some rule) = Broken rule
