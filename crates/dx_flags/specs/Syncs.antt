-- What sets of syncs have, and which of them are well formed.
use Rattle.std.specs.Prelude.{Bool, true, false, not, nat_lt, bit_and, ◌==◌, ◌&&◌, ◌||◌, ◌^◌}
use Rattle.std.specs.List.{list_any, list_all}
use Rattle.dx_flags.specs.declared.syncs.Sync.{Sync}
use Rattle.dx_flags.specs.SyncNames.{SyncName, sync_bit, sync_names, NONE, ALL, COMPUTE_SHADING, ALL_SHADING, NON_PIXEL_SHADING, COPY, CLEAR_UNORDERED_ACCESS_VIEW}

-- the set of one sync
abbrev pub one_sync : SyncName → Sync
one_sync name = record { 0 = sync_bit name }

-- a set has a name
unfoldable pub sync_has : Sync → SyncName → Bool
sync_has sync name = bit_and sync.0 (sync_bit name) == sync_bit name

-- a sync may stand beside others in a set
abbrev pub may_join_syncs : SyncName → Bool
may_join_syncs NONE = false
may_join_syncs ALL = false
may_join_syncs COMPUTE_SHADING = true
may_join_syncs ALL_SHADING = true
may_join_syncs NON_PIXEL_SHADING = true
may_join_syncs COPY = true
may_join_syncs CLEAR_UNORDERED_ACCESS_VIEW = true

-- a set is well formed: it has a name and no unknown bit, and a name that stands alone is the whole set
unfoldable pub is_well_formed_sync : Sync → Bool
is_well_formed_sync sync =
    nat_lt sync.0 (2 ^ 7)
    && (list_any (sync_has sync) sync_names
    && list_all (λ name. (may_join_syncs name || not (sync_has sync name)) || (sync.0 == sync_bit name)) sync_names)
