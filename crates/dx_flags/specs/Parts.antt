-- The parts that syncs stand for.
use Rattle.std.specs.Prelude.{ℕ, Bool, List, Option, [], ◌∷◌, ◌==◌, ◌&&◌, ◌||◌, ◌+◌}
use Rattle.std.specs.List.{list_any, find}
use Rattle.dx_flags.specs.declared.atoms.Part.{Part}
use Rattle.dx_flags.specs.declared.atoms.Part.TheVariants.{Copy, Compute, Clear}
use Rattle.dx_flags.specs.declared.syncs.Sync.{Sync}
use Rattle.dx_flags.specs.SyncNames.{SyncName, sync_bit, sync_names, NONE, ALL, COMPUTE_SHADING, ALL_SHADING, NON_PIXEL_SHADING, COPY, CLEAR_UNORDERED_ACCESS_VIEW}
use Rattle.dx_flags.specs.Syncs.{sync_has}
use Rattle.dx_flags.specs.Bits.{bit_where}

-- the sync that stands for a part
abbrev pub name_of_part : Part → SyncName
name_of_part Copy = COPY
name_of_part Compute = COMPUTE_SHADING
name_of_part Clear = CLEAR_UNORDERED_ACCESS_VIEW

-- the bit of a part
abbrev pub part_bit : Part → ℕ
part_bit part = sync_bit (name_of_part part)

-- all parts
abbrev pub all_parts : List Part
all_parts = Copy ∷ Compute ∷ Clear ∷ []

-- a part is one of these
abbrev pub is_part_of : List Part → Part → Bool
is_part_of ones part = list_any (λ one. part_bit one == part_bit part) ones

-- the parts of each sync
abbrev pub parts_of_name : SyncName → List Part
parts_of_name NONE = []
parts_of_name ALL = all_parts
parts_of_name COMPUTE_SHADING = Compute ∷ Clear ∷ []
parts_of_name ALL_SHADING = Compute ∷ Clear ∷ []
parts_of_name NON_PIXEL_SHADING = Compute ∷ Clear ∷ []
parts_of_name COPY = Copy ∷ []
parts_of_name CLEAR_UNORDERED_ACCESS_VIEW = Clear ∷ []

-- the part that a sync stands for, if it is one
unfoldable pub part_of : Sync → Option Part
part_of sync = find (λ part. sync.0 == part_bit part) all_parts

-- some sync of a set has a part
unfoldable pub has_part : Part → Sync → Bool
has_part part sync = list_any (λ name. is_part_of (parts_of_name name) part && sync_has sync name) sync_names

-- the parts of a set, each by the sync that stands for it
unfoldable pub parts_of : Sync → Sync
parts_of sync = record {
  0 = bit_where (has_part Copy sync) (part_bit Copy)
      + (bit_where (has_part Compute sync) (part_bit Compute) + bit_where (has_part Clear sync) (part_bit Clear));
}

-- a set has a shading sync
unfoldable pub has_shading : Sync → Bool
has_shading sync = sync_has sync COMPUTE_SHADING || (sync_has sync ALL_SHADING || sync_has sync NON_PIXEL_SHADING)
