-- Which accesses fit which syncs, by the rows of bits.
use Rattle.std.proofs.Common.{◌≡◌, not, ◌==◌, ◌||◌, bit_and, refl}
use Rattle.std.specs.List.{list_all}
use Rattle.dx_flags.specs.declared.syncs.Sync.{Sync}
use Rattle.dx_flags.specs.declared.fitting.TheConstants.{ACCESSES}
use Rattle.dx_flags.specs.declared.accesses.Access.{Access}
use Rattle.dx_flags.specs.Accesses.{access_has}
use Rattle.dx_flags.specs.Fits.{fits_some, fits_of}
use Rattle.dx_flags.specs.Rows.{fits_row}
use Rattle.dx_flags.specs.Syncs.{sync_has}

pub fits_by_rows : (sync : Sync) (access : Access) →
    list_all (λ one. fits_row sync one || not (bit_and access.0 one.0 == one.0)) ACCESSES ≡ fits_of sync access
unfolding fits_of fits_some sync_has access_has
fits_by_rows sync access = refl
