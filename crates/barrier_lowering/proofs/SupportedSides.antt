-- The stages of lowered barriers support their accesses.
use Rattle.std.proofs.Common.{◌≡◌, Bool, true, refl}
use Rattle.std.specs.List.{list_all}
use Rattle.dx_base.specs.declared.kinds.ListType.{ListType}
use Rattle.dx_flags.proofs.AccessSets.{each_access}
use Rattle.dx_flags.proofs.SyncSets.{each_sync}
use Rattle.dx_flags.proofs.TablesByNames.{fit_by_names}
use Rattle.dx_flags.specs.declared.accesses.Access.{Access}
use Rattle.dx_flags.specs.declared.syncs.Sync.{Sync}
use Rattle.dx_flags.specs.AccessNames.{AccessName, access_names}
use Rattle.dx_flags.specs.Fits as fit
use Rattle.dx_flags.specs.Fits.{fits_of, is_access_of}
use Rattle.dx_flags.specs.StateNames.{UNORDERED_ACCESS}
use Rattle.dx_flags.specs.States.{one_state}
use Rattle.dx_flags.specs.SyncNames.{SyncName}
use Rattle.dx_flags.specs.Syncs.{sync_has}
use Rattle.enhanced_barriers.proofs.LegalParts.{legal_means}
use Rattle.enhanced_barriers.specs.declared.barriers.Barrier.{Barrier}
use Rattle.enhanced_barriers.specs.Laws.{IsLegal}
use Rattle.enhanced_barriers.specs.Legal.{is_legal}
use Rattle.vk_types.proofs.Supported.{among_all, support_means}
use Rattle.vk_types.specs.declared.accesses.Access.{Access as VkAccess}
use Rattle.vk_types.specs.Accesses.{has_access, group_of}
use Rattle.vk_types.specs.Support.{all_accesses, supports, supports_group}
use Rattle.vk_types.specs.Supported.{IsSupported}
use Rattle.lower_tables.proofs.AccessBits.{Origin, origin}
use Rattle.lower_tables.proofs.Marks.{implies, where_first}
use Rattle.lower_tables.proofs.StateSides.{side_supported}
use Rattle.lower_tables.proofs.SyncStages.{own_stage}
use Rattle.lower_tables.specs.Accesses.{access_of, accesses_of_name}
use Rattle.barrier_lowering.specs.Supported.{IsSupportedBarrier, LoweredIsSupported}
use Rattle.lower_tables.specs.Made.{is_one_of}
use Rattle.lower_tables.specs.Stages.{stage_of, stage_of_name}

-- where an access fits a sync, the sync's stage supports the access's memory accesses
abbrev row : SyncName → AccessName → VkAccess → Bool
row sync access x = implies (is_access_of (fit.accesses_of_name sync) access) (implies (is_one_of (accesses_of_name access) x) (supports_group (stage_of_name sync) (group_of x)))

abbrev rows : SyncName → Bool
rows sync = list_all (λ access. list_all (row sync access) all_accesses) access_names

each_row : (sync : SyncName) (access : AccessName) (x : VkAccess) → row sync access x ≡ true
each_row sync access x = among_all (row sync access) x (each_access (λ a. list_all (row sync a) all_accesses) (each_sync rows refl sync) access)

fits_stage : (sync : SyncName) (access : AccessName) (x : VkAccess) → is_access_of (fit.accesses_of_name sync) access ≡ true → is_one_of (accesses_of_name access) x ≡ true → supports_group (stage_of_name sync) (group_of x) ≡ true
fits_stage sync access x h lowered =
    where_first (is_one_of (accesses_of_name access) x) (supports_group (stage_of_name sync) (group_of x))
    (where_first (is_access_of (fit.accesses_of_name sync) access) (implies (is_one_of (accesses_of_name access) x) (supports_group (stage_of_name sync) (group_of x))) (each_row sync access x) h) lowered

one_supported : (s : Sync) (a : Access) → fits_of s a ≡ true → (x : VkAccess) → has_access (access_of a) x ≡ true → IsSupported (stage_of s) x
one_supported s a h x there =
    let from : Origin a x = origin a x there in
    let by : (name : SyncName) × ((sync_has s name ≡ true) × (is_access_of (fit.accesses_of_name name) from.name ≡ true)) = (fit_by_names s a).0 h from.name from.there in
    record { stage = stage_of_name by.0; there = own_stage by.0 s by.1.0; fits = fits_stage by.0 from.name x by.1.1 from.lowered }

-- where accesses fit syncs, the stages support the memory accesses
pub fit_supported : (s : Sync) (a : Access) → fits_of s a ≡ true → supports (stage_of s) (access_of a) ≡ true
fit_supported s a h = support_means.wherever (stage_of s) (access_of a) (one_supported s a h)

legal_supported : (b : Barrier) (list : ListType) (shared : Bool) → is_legal b list shared ≡ true → IsSupportedBarrier b
legal_supported b list shared h =
    let legal : IsLegal b list shared = (legal_means b list shared).0 h in
    record { before = fit_supported b.sync_before b.access_before legal.fits_before; after = fit_supported b.sync_after b.access_after legal.fits_after }

pub all_supported : LoweredIsSupported
all_supported = record { barriers = legal_supported; states = side_supported; unordered = side_supported (one_state UNORDERED_ACCESS) }
