-- The rules that a step breaks.
use Rattle.std.specs.Prelude.{ℕ, ◌-◌, Bool, true, false, ◌&&◌, ◌||◌, not, ◌==◌, nat_lt, nat_le, List, [], ◌∷◌, ◌++◌, length, slice_index_or, Option, Some, None, if◌then◌else◌}
use Rattle.std.specs.List.{list_all, list_any, flat_map}
use Rattle.vk_types.specs.declared.accesses.Accesses.{Accesses}
use Rattle.vk_types.specs.declared.batches.Batch.{Batch}
use Rattle.vk_types.specs.declared.commands.VkCommand.{VkCommand}
use Rattle.vk_types.specs.declared.commands.VkCommand.TheVariants.{Barrier, Copy, CopyImage, CopyIn, CopyOut, Clear, Dispatch}
use Rattle.vk_types.specs.declared.layouts.Change.{Change}
use Rattle.vk_types.specs.declared.layouts.VkLayout.{VkLayout}
use Rattle.vk_types.specs.declared.layouts.VkLayout.TheVariants.{Undefined, General, ShaderReadOnlyOptimal, TransferSrcOptimal, TransferDstOptimal}
use Rattle.vk_types.specs.declared.stages.Stages.{Stages}
use Rattle.vk_types.specs.declared.steps.VkStep.{VkStep}
use Rattle.vk_types.specs.declared.steps.VkStep.TheVariants.{Submit, Pass, Command, Bump, HostWrite, HostRead, Update}
use Rattle.vk_types.specs.Accesses.{has_access}
use Rattle.vk_types.specs.Support.{supports, all_accesses as each_access}
use Rattle.vk_types.specs.Whole.{image_allows}
use Rattle.vk_sync_rules.specs.declared.accesses.DoneAccess.{DoneAccess}
use Rattle.vk_sync_rules.specs.declared.places.Place.{Place}
use Rattle.vk_sync_rules.specs.declared.ranges.VkResource.{VkResource}
use Rattle.vk_sync_rules.specs.declared.ranges.VkResource.TheVariants.{Buffer, Image}
use Rattle.vk_sync_rules.specs.declared.ranges.WordRange.{WordRange}
use Rattle.vk_sync_rules.specs.declared.rules.VkRule.{VkRule}
use Rattle.vk_sync_rules.specs.declared.rules.VkRule.TheVariants.{V1, V2, V3, V4, V5, V6, V7, V8, V9, V10}
use Rattle.vk_sync_rules.specs.AccessSets.{is_some_access, host_stage, host_reads}
use Rattle.vk_sync_rules.specs.Commands.{pieces, change_of, subs_of, passes_end}
use Rattle.vk_sync_rules.specs.DoneAccesses.{ordered, sees, in_scope, is_made_available, is_host, last_write, start_of}
use Rattle.vk_sync_rules.specs.NextState.{moved, whole_sub, is_undefined, host_range, host_passes_end}
use Rattle.vk_sync_rules.specs.Numbers.{up_to}
use Rattle.vk_sync_rules.specs.Orders.{sort_of}
use Rattle.vk_sync_rules.specs.Pieces.{Piece, does_write}
use Rattle.vk_sync_rules.specs.Ranges.{overlap, same_resource}
use Rattle.vk_sync_rules.specs.Registers.{names_slot}
use Rattle.vk_sync_rules.specs.VkState.{VkState, counts_of, counter_of, command_at}

-- a test of an option's content; true of none
abbrev pub of_each : {A : Type 0} → (A → Bool) → Option A → Bool
of_each test None = true
of_each test (Some x) = test x

-- a test of each last write of the words of a range
abbrev pub each_last : (DoneAccess → Bool) → WordRange → List DoneAccess → Bool
each_last test range accesses = list_all (λ word. of_each test (last_write range.resource word accesses)) (up_to range.first range.count)

-- V1: a piece is ordered after an access, or need not be
abbrev pub follows : ℕ → Stages → Place → Piece → DoneAccess → Bool
follows q stage here p r = not (overlap p.range r.range && (does_write p || r.writes)) || ordered q stage here r

-- a piece comes after all that was made; it reads what it sees, and writes behind what is available
abbrev pub is_in_order : List DoneAccess → ℕ → Stages → Place → Piece → Bool
is_in_order accesses q stage here p =
    list_all (follows q stage here p) accesses
    && (each_last (λ w. not (is_some_access p.reads) || sees q stage p.reads here w) p.range accesses
    && each_last (λ w. not (does_write p) || w.available) p.range accesses)

-- two registers, or two rows or sides of a copy, share a word that one of them writes
abbrev pub collide : Piece → Piece → Bool
collide a b = overlap a.range b.range && (does_write a || does_write b)

abbrev pub some_collide : List Piece → Bool
some_collide [] = false
some_collide (p ∷ ps) = list_any (collide p) ps || some_collide ps

-- the layout change of a barrier comes after all that was made of its subresource: each access is in the first scope, and each last
-- write is available, or the barrier makes it so
abbrev pub is_change_in_order : VkState → ℕ → Stages → Accesses → Place → ℕ → ℕ → Bool
is_change_in_order v q from made here i s =
    list_all (λ (r : DoneAccess). not (same_resource (Image i s) r.range.resource) || in_scope q from here r) v.accesses
    && each_last (λ w. w.available || is_made_available q here from made w) (whole_sub v.plan i s) v.accesses

-- V1 of a barrier: its change is not in order
abbrev pub is_change_unordered : VkState → ℕ → Place → VkCommand → Bool
is_change_unordered v q here (Barrier from made to seen None) = false
is_change_unordered v q here (Barrier from made to seen (Some c)) = not (list_all (is_change_in_order v q from made here c.image) (subs_of v.plan c))
is_change_unordered v q here (Copy to to_first from from_first words) = false
is_change_unordered v q here (CopyImage to to_sub to_layout from from_sub from_layout) = false
is_change_unordered v q here (CopyIn image sub layout buffer first pitch) = false
is_change_unordered v q here (CopyOut buffer first pitch image sub layout) = false
is_change_unordered v q here (Clear target word) = false
is_change_unordered v q here (Dispatch routine count t0 t1 u0 b0) = false

-- V1 of a command
abbrev pub is_unordered : VkState → ℕ → Place → List ℕ → VkCommand → Bool
is_unordered v q here loaded c =
    is_change_unordered v q here c
    || (some_collide (pieces v.plan loaded c) || not (list_all (is_in_order v.accesses q (sort_of c).takes here) (pieces v.plan loaded c)))

-- the place of a layout among all of them
abbrev pub layout_place : VkLayout → ℕ
layout_place Undefined = 0
layout_place General = 1
layout_place ShaderReadOnlyOptimal = 2
layout_place TransferSrcOptimal = 3
layout_place TransferDstOptimal = 4

-- two layouts are the same
abbrev pub same_layout : VkLayout → VkLayout → Bool
same_layout a b = layout_place a == layout_place b

-- the current layout of a subresource
abbrev pub layout_of : VkState → ℕ → ℕ → VkLayout
layout_of v i s = slice_index_or (slice_index_or v.layouts i []) s Undefined

-- a layout allows each access of a set
abbrev pub allows_all : VkLayout → Accesses → Bool
allows_all layout accesses = list_all (λ a. not (has_access accesses a) || image_allows layout a) each_access

-- V2 of a piece: the layout of its image does not allow its accesses, or is not the one that the copy names
abbrev pub is_wrong_in : VkState → Piece → VkResource → Bool
is_wrong_in v p (Buffer b) = false
is_wrong_in v p (Image i s) =
    not (allows_all (layout_of v i s) p.reads && allows_all (layout_of v i s) p.writes) || not (of_each (same_layout (layout_of v i s)) p.named)

abbrev pub is_wrong_layout : VkState → Piece → Bool
is_wrong_layout v p = not (p.range.count == 0) && is_wrong_in v p p.range.resource

-- V3: the old layout of a change is neither UNDEFINED nor the current one
abbrev pub is_old : VkState → Change → ℕ → Bool
is_old v c s = is_undefined c.old || same_layout c.old (layout_of v c.image s)

abbrev pub is_wrong_change : VkState → VkCommand → Bool
is_wrong_change v c = elim (change_of c) [ None ↦ false | Some change ↦ not (list_all (is_old v change) (subs_of v.plan change)) ]

-- V4: the values that earlier batches have still to set
abbrev pub pending_sets : VkState → List (ℕ × ℕ)
pending_sets v = flat_map (λ (b : Batch). if nat_lt b.number (counts_of v b.queue).ended then [] else b.sets) v.journal

-- V5: and those that they have still to wait for
abbrev pub pending_waits : VkState → List (ℕ × ℕ)
pending_waits v = flat_map (λ (b : Batch). if nat_lt b.number (counts_of v b.queue).passed then [] else b.waits) v.journal

-- a value is past a timeline's and all that are still to be set
abbrev pub is_new : VkState → ℕ × ℕ → Bool
is_new v s = nat_lt (counter_of v s.0) s.1 && list_all (λ (p : ℕ × ℕ). not (p.0 == s.0) || nat_lt p.1 s.1) (pending_sets v)

-- this device's maxTimelineSemaphoreValueDifference (Vulkan 1.3, 42.1)
abbrev pub most_apart : ℕ
most_apart = 2147483647

-- two values differ by no more
abbrev pub is_near : ℕ → ℕ → Bool
is_near a b = nat_le (a - b) most_apart && nat_le (b - a) most_apart

abbrev pub is_near_all : VkState → ℕ × ℕ → Bool
is_near_all v s = is_near s.1 (counter_of v s.0) && list_all (λ (p : ℕ × ℕ). not (p.0 == s.0) || is_near s.1 p.1) (pending_sets v ++ pending_waits v)

-- V6: a submitted, unfinished command names a slot
abbrev pub is_in_use : VkState → ℕ × ℕ → Bool
is_in_use v s =
    list_any (λ (b : Batch). not (nat_lt b.number (counts_of v b.queue).ended) && list_any (names_slot s) b.commands) v.journal

-- V8: a barrier names an access that none of its stages on that side supports
abbrev pub is_unsupported : VkCommand → Bool
is_unsupported (Barrier from made to seen change) = not (supports from made && supports to seen)
is_unsupported (Copy to to_first from from_first words) = false
is_unsupported (CopyImage to to_sub to_layout from from_sub from_layout) = false
is_unsupported (CopyIn image sub layout buffer first pitch) = false
is_unsupported (CopyOut buffer first pitch image sub layout) = false
is_unsupported (Clear target word) = false
is_unsupported (Dispatch routine count t0 t1 u0 b0) = false

-- a host access is ordered after an access that the host made, or that some pair signals
abbrev pub is_host_ordered : DoneAccess → Bool
is_host_ordered r = is_host r || elim r.signals [ [] ↦ false | s ∷ ss ↦ true ]

-- the host sees a write: its own, or one that is visible to HOST and HOST_READ at a place of a finished batch
abbrev pub is_host_seen : VkState → DoneAccess → Bool
is_host_seen v w = is_host w || list_any (λ q. sees q host_stage host_reads (start_of (counts_of v q).ended) w) (up_to 0 (length v.queues))

-- V1 of a host write: it is ordered after each access of its words, and behind writes that are available
abbrev pub is_host_write_in_order : VkState → WordRange → Bool
is_host_write_in_order v range =
    list_all (λ (r : DoneAccess). not (overlap range r.range) || is_host_ordered r) v.accesses && each_last (λ w. w.available) range v.accesses

-- V10: a host read is ordered after each write of its words, and sees the last ones
abbrev pub is_host_read_in_order : VkState → WordRange → Bool
is_host_read_in_order v range =
    list_all (λ (r : DoneAccess). not (overlap range r.range && r.writes) || is_host_ordered r) v.accesses && each_last (is_host_seen v) range v.accesses

-- the first rule whose test holds
abbrev pub least : List (VkRule × Bool) → Option VkRule
least [] = None
least (r ∷ rs) = if r.1 then Some r.0 else least rs

-- the least rule that a command breaks; past an end it makes no access, and breaks V7 alone
abbrev pub rule_of_command : VkState → ℕ → Place → List ℕ → Option VkCommand → Option VkRule
rule_of_command v q here loaded None = None
rule_of_command v q here loaded (Some c) =
    if passes_end v.plan loaded c then Some V7
    else least ((V1, is_unordered v q here loaded c) ∷ (V2, list_any (is_wrong_layout v) (pieces v.plan loaded c)) ∷ (V3, is_wrong_change v c) ∷ (V8, is_unsupported c) ∷ [])

-- the least rule that a step breaks, if it breaks one
abbrev pub rule_of : VkState → VkStep → Option VkRule
rule_of v (Submit b) =
    least ((V4, not (list_all (is_new v) b.sets)) ∷ (V5, not (list_all (is_near_all v) (b.sets ++ b.waits))) ∷ (V9, not (b.number == (counts_of v b.queue).submitted)) ∷ [])
rule_of v (Pass q n) = None
rule_of v (Command q n k loaded) = rule_of_command v q (record { number = n; index = k }) loaded (command_at v q (record { number = n; index = k }))
rule_of v (Bump q n) = None
rule_of v (HostWrite buffer first words) =
    if host_passes_end v buffer first (length words) then Some V7
    else least ((V1, not (is_host_write_in_order v (host_range buffer first (length words)))) ∷ [])
rule_of v (HostRead buffer first words) =
    if host_passes_end v buffer first (length words) then Some V7
    else least ((V10, not (is_host_read_in_order v (host_range buffer first (length words)))) ∷ [])
rule_of v (Update heap slot) = least ((V6, is_in_use v (heap, slot)) ∷ [])

-- the first rule broken, if there is one
abbrev pub or_rule : Option VkRule → Option VkRule → Option VkRule
or_rule None r = r
or_rule (Some x) r = Some x

-- the state after a step
abbrev pub after_step : VkState → VkStep → VkState
after_step v s = record (moved v s) { broken = or_rule v.broken (rule_of v s) }

-- the state after steps
abbrev pub after_steps : VkState → List VkStep → VkState
after_steps v [] = v
after_steps v (s ∷ ss) = after_steps (after_step v s) ss
