-- The pairs of a part and a kind that barriers have.
use Rattle.std.specs.Prelude.{Bool, false, Option, Some, None, ◌&&◌}
use Rattle.dx_flags.specs.declared.atoms.Kind.{Kind}
use Rattle.dx_flags.specs.declared.atoms.Part.{Part}
use Rattle.dx_flags.specs.declared.syncs.Sync.{Sync}
use Rattle.dx_flags.specs.declared.accesses.Access.{Access}
use Rattle.dx_flags.specs.Kinds.{has_kind, kind_of}
use Rattle.dx_flags.specs.Parts.{has_part, part_of}
use Rattle.enhanced_barriers.specs.declared.barriers.Barrier.{Barrier}

-- the before side of a barrier has a pair
unfoldable pub before_has : Barrier → Part → Kind → Bool
before_has barrier part kind = has_part part barrier.sync_before && has_kind kind barrier.access_before

-- the after side of a barrier has a pair
unfoldable pub after_has : Barrier → Part → Kind → Bool
after_has barrier part kind = has_part part barrier.sync_after && has_kind kind barrier.access_after

-- a test of a pair, where there is one
abbrev pub of_pair : (Part → Kind → Bool) → Option Part → Option Kind → Bool
of_pair test (Some part) (Some kind) = test part kind
of_pair test (Some part) None = false
of_pair test None (Some kind) = false
of_pair test None None = false

-- the before side of a barrier has the pair that a sync and an access stand for
unfoldable pub covers_of : Barrier → Sync → Access → Bool
covers_of barrier sync access = of_pair (before_has barrier) (part_of sync) (kind_of access)
