-- What a dispatch touches and stores through its registers.
use Rattle.std.specs.Prelude.{ℕ, ◌+◌, Bool, true, false, ◌||◌, ◌==◌, min, List, [], ◌∷◌, ◌++◌, map, take, drop, slice_index_or, Option, Some, None, if◌then◌else◌}
use Rattle.dx_base.specs.declared.kinds.Class.TheVariants.{Cbv, Srv, Uav}
use Rattle.dx_base.specs.declared.kinds.Routine.{Routine}
use Rattle.routines.specs.declared.numbers.Numbers.{Numbers as RoutineNumbers}
use Rattle.routines.specs.declared.puts.Put.{Put}
use Rattle.routines.specs.declared.uses.Extent.{Extent}
use Rattle.routines.specs.Puts.{puts_of}
use Rattle.routines.specs.Uses.{uses_of, words_used, read_of_u0}
use Rattle.vk_types.specs.declared.accesses.Accesses.{Accesses}
use Rattle.vk_types.specs.declared.registers.Count.{Count}
use Rattle.vk_types.specs.declared.registers.Count.TheVariants.{Number, Word}
use Rattle.vk_types.specs.declared.registers.Register.{Register}
use Rattle.vk_types.specs.declared.registers.Register.TheVariants.{Unbound, Constant, Root, Fixed, Slot}
use Rattle.vk_sync_rules.specs.declared.ranges.VkResource.TheVariants.{Buffer}
use Rattle.vk_sync_rules.specs.declared.ranges.WordRange.{WordRange}
pub use Rattle.vk_sync_rules.specs.declared.dispatches.DispatchViews.{DispatchViews}
use Rattle.vk_sync_rules.specs.AccessSets.{no_accesses, shader_reads, uniform_reads, storage_reads, storage_writes}
use Rattle.vk_sync_rules.specs.Numbers.{Numbers, numbers_in, stored}
use Rattle.vk_sync_rules.specs.Registers.{words_of_register}
use Rattle.vk_types.specs.declared.plan.DevicePlan.{DevicePlan}
use Rattle.vk_sync_rules.specs.Pieces.{Piece}

-- the views of the registers of a dispatch
abbrev pub views_of : DevicePlan → (ℕ × ℕ → ℕ) → Register → Register → Register → Register → DispatchViews
views_of plan answers t0 t1 u0 b0 = record {
  t0 = words_of_register plan answers Srv t0;
  t1 = words_of_register plan answers Srv t1;
  u0 = words_of_register plan answers Uav u0;
  b0 = words_of_register plan answers Cbv b0;
}

-- the most invocations that a dispatch may have
abbrev pub most_of : Count → ℕ
most_of (Number n) = n
most_of (Word buffer word most) = most

-- the word that gives the number of invocations, if one does
abbrev pub word_of_count : Count → List WordRange
word_of_count (Number n) = []
word_of_count (Word buffer word most) = record { resource = Buffer buffer; first = word; count = 1 } ∷ []

abbrev pub is_word : Count → Bool
is_word (Number n) = false
is_word (Word buffer word most) = true

-- the first words of a range, as many as a routine with n invocations uses
abbrev pub used_of : Extent → ℕ → WordRange → WordRange
used_of extent n range = record range { count = words_used extent n range.count }

-- the words of a register that are used; none where there are none
abbrev pub piece_of : Option WordRange → Extent → ℕ → Accesses → Accesses → List Piece
piece_of None extent n reads writes = []
piece_of (Some range) extent n reads writes =
    if words_used extent n range.count == 0 then []
    else record { range = used_of extent n range; reads = reads; writes = writes; named = None } ∷ []

-- what a dispatch touches: the word of its count, and the words of its views that its routine uses. Where a word gives the
-- count, the words that may be written count as read, too
abbrev pub pieces_of_dispatch : Routine → Count → DispatchViews → List Piece
pieces_of_dispatch routine count views =
    map (λ word. record { range = word; reads = shader_reads; writes = no_accesses; named = None }) (word_of_count count)
    ++ (piece_of views.t0 (uses_of routine).t0 (most_of count) shader_reads no_accesses
    ++ (piece_of views.t1 (uses_of routine).t1 (most_of count) shader_reads no_accesses
    ++ (piece_of views.b0 (uses_of routine).b0 (most_of count) uniform_reads no_accesses
    ++ piece_of views.u0 (uses_of routine).u0 (most_of count) (if (uses_of routine).updates || is_word count then storage_reads else no_accesses) storage_writes)))

-- a number, where it is known
abbrev pub known : Option ℕ → ℕ
known None = 0
known (Some n) = n

-- the numbers of a range
abbrev pub known_in : Numbers → WordRange → List ℕ
known_in m range = map known (take range.count (drop range.first (numbers_in m range.resource)))

-- how many invocations a dispatch has: the lesser of the word and the most, where a word gives them
abbrev pub invocations_of : Numbers → Count → ℕ
invocations_of m (Number n) = n
invocations_of m (Word buffer word most) = min most (slice_index_or (known_in m (record { resource = Buffer buffer; first = word; count = 1 })) 0 0)

-- the numbers that a routine reads in a register
abbrev pub numbers_used : Numbers → Option WordRange → Extent → ℕ → List ℕ
numbers_used m None extent n = []
numbers_used m (Some range) extent n = known_in m (used_of extent n range)

-- the word of b0: a constant, or the first word of its view
abbrev pub word_of_b0 : Numbers → Option WordRange → Extent → ℕ → Register → ℕ
word_of_b0 m view extent n Unbound = 0
word_of_b0 m view extent n (Constant word) = word
word_of_b0 m view extent n (Root buffer first) = slice_index_or (numbers_used m view extent n) 0 0
word_of_b0 m view extent n (Fixed place) = slice_index_or (numbers_used m view extent n) 0 0
word_of_b0 m view extent n (Slot heap slot) = slice_index_or (numbers_used m view extent n) 0 0

-- what a routine with n invocations reads
abbrev pub numbers_of_dispatch : Numbers → Routine → ℕ → DispatchViews → Register → RoutineNumbers
numbers_of_dispatch m routine n views b0 = record {
  t0 = numbers_used m views.t0 (uses_of routine).t0 n;
  t1 = numbers_used m views.t1 (uses_of routine).t1 n;
  u0 = numbers_used m views.u0 (read_of_u0 routine) n;
  c = word_of_b0 m views.b0 (uses_of routine).b0 n b0;
}

-- the numbers after puts into the words of a range
abbrev pub after_puts : WordRange → List Put → Numbers → Numbers
after_puts range [] m = m
after_puts range (p ∷ ps) m = after_puts range ps (stored (record { resource = range.resource; first = range.first + p.word; count = 1 }) (Some p.value ∷ []) m)

-- the numbers after a routine with n invocations
abbrev pub after_routine : Routine → ℕ → Option WordRange → RoutineNumbers → Numbers → Numbers
after_routine routine n None x m = m
after_routine routine n (Some range) x m = after_puts range (puts_of routine n range.count x) m

-- the numbers after a dispatch whose reads are all known
abbrev pub after_dispatch : Routine → Count → DispatchViews → Register → Numbers → Numbers
after_dispatch routine count views b0 m =
    after_routine routine (invocations_of m count) views.u0 (numbers_of_dispatch m routine (invocations_of m count) views b0) m
