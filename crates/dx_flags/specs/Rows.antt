-- The rows of the code's table of the accesses that fit each sync.
use Rattle.std.specs.Prelude.{Bool, ◌==◌, ◌&&◌, bit_and}
use Rattle.std.specs.List.{list_any}
use Rattle.dx_flags.specs.declared.syncs.Sync.{Sync}
use Rattle.dx_flags.specs.declared.fitting.TheConstants.{FITTING}
use Rattle.dx_flags.specs.declared.accesses.Access.{Access}

-- some row has an access, and its sync is in a set
abbrev pub fits_row : Sync → Access → Bool
fits_row sync one = list_any (λ row. (bit_and row.1.0 one.0 == one.0) && (bit_and sync.0 row.0.0 == row.0.0)) FITTING
