-- The pairs that barriers cover.
use Rattle.std.proofs.Common.{◌≡◌, refl}
use Rattle.dx_flags.proofs.AtomFacts.{part_itself, kind_itself}
use Rattle.dx_flags.specs.declared.atoms.Kind.{Kind}
use Rattle.dx_flags.specs.declared.atoms.Part.{Part}
use Rattle.dx_flags.specs.Accesses.{one_access}
use Rattle.dx_flags.specs.Kinds.{name_of_kind}
use Rattle.dx_flags.specs.Parts.{name_of_part}
use Rattle.dx_flags.specs.Syncs.{one_sync}
use Rattle.enhanced_barriers.specs.declared.barriers.Barrier.{Barrier}
use Rattle.enhanced_barriers.specs.Cover.{before_has, covers_of}

-- a barrier covers the pair that stands for a part and a kind where its before side has both
pub covers_pair : (b : Barrier) (part : Part) (kind : Kind) →
    covers_of b (one_sync (name_of_part part)) (one_access (name_of_kind kind)) ≡ before_has b part kind
unfolding covers_of
covers_pair b part kind = rw (part_itself part, kind_itself kind) refl
