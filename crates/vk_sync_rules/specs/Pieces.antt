-- The words that a command touches, piece by piece.
use Rattle.std.specs.Prelude.{◌+◌, Bool, true, false, ◌&&◌, ◌||◌, not, ◌==◌, nat_lt, List, [], ◌∷◌, ◌++◌, Some, if◌then◌else◌}
use Rattle.std.specs.List.{flat_map}
use Rattle.vk_types.specs.declared.accesses.Accesses.{Accesses}
use Rattle.vk_sync_rules.specs.declared.accesses.DoneAccess.{DoneAccess}
use Rattle.vk_sync_rules.specs.declared.accesses.Maker.{Maker}
use Rattle.vk_sync_rules.specs.declared.ranges.WordRange.{WordRange}
pub use Rattle.vk_sync_rules.specs.declared.pieces.Piece.{Piece}
use Rattle.vk_sync_rules.specs.AccessSets.{is_some_access}
use Rattle.vk_sync_rules.specs.Sizes.{words_in, is_there}
use Rattle.vk_types.specs.declared.plan.DevicePlan.{DevicePlan}

-- a piece writes
abbrev pub does_write : Piece → Bool
does_write p = is_some_access p.writes

-- the words that are written
abbrev pub written_ranges : List Piece → List WordRange
written_ranges ps = flat_map (λ p. if does_write p then p.range ∷ [] else []) ps

-- one access of a command; none where it does not make it, or there is no word
abbrev pub one_made : Maker → WordRange → Bool → Accesses → List DoneAccess
one_made by range writes access =
    if not (range.count == 0) && is_some_access access
    then record { range = range; writes = writes; access = access; by = Some by; gains = []; signals = []; available = false } ∷ [] else []

-- the accesses of a piece: its read, then its write
abbrev pub made_by : Maker → Piece → List DoneAccess
made_by by p = one_made by p.range false p.reads ++ one_made by p.range true p.writes

-- a piece lies beyond the end of its buffer or image, or its image lacks the subresource
abbrev pub is_outside : DevicePlan → Piece → Bool
is_outside plan p = not (is_there plan p.range.resource) || nat_lt (words_in plan p.range.resource) (p.range.first + p.range.count)
