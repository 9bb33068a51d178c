-- The stages of sets of syncs.
use Rattle.std.proofs.Common.{◌≡◌, Bool, true, ◌&&◌, refl}
use Rattle.std.specs.List.{list_any}
use Rattle.dx_flags.proofs.SyncSets.{sync_name, any_sync}
use Rattle.dx_flags.specs.declared.atoms.Part.{Part}
use Rattle.dx_flags.specs.declared.atoms.Part.TheVariants as part
use Rattle.dx_flags.specs.declared.syncs.Sync.{Sync}
use Rattle.dx_flags.specs.Parts.{has_part, is_part_of, parts_of_name}
use Rattle.dx_flags.specs.SyncNames.{SyncName, sync_names, NONE, ALL, COMPUTE_SHADING, ALL_SHADING, NON_PIXEL_SHADING, COPY, CLEAR_UNORDERED_ACCESS_VIEW}
use Rattle.dx_flags.specs.Syncs.{sync_has, is_well_formed_sync}
use Rattle.vk_types.specs.declared.stages.Stage.TheVariants.{AllCommands}
use Rattle.vk_types.specs.declared.stages.Stages.{Stages}
use Rattle.vk_types.specs.Stages.{meets, only_stage, has_stage}
use Rattle.vk_types.specs.Whole.{stands_for_stage}
use Rattle.lower_tables.proofs.Marks.{Test, implies, where_first, all_marks, at_marks}
use Rattle.lower_tables.specs.Made.{stage_of_part}
use Rattle.lower_tables.specs.Stages.{stage_of, stage_of_name, stage_bit_of_name}
use Rattle.lower_tables.specs.Unions.{united}

-- a set of syncs by its marks
abbrev marked : Bool → Bool → Bool → Bool → Bool → Bool → Bool → SyncName → Bool
marked a b c d e f g NONE = a
marked a b c d e f g ALL = b
marked a b c d e f g COMPUTE_SHADING = c
marked a b c d e f g ALL_SHADING = d
marked a b c d e f g NON_PIXEL_SHADING = e
marked a b c d e f g COPY = f
marked a b c d e f g CLEAR_UNORDERED_ACCESS_VIEW = g

-- a test of sets of syncs, by marks
abbrev by_marks : ((SyncName → Bool) → Bool) → Test
by_marks test a b c d e f g = test (marked a b c d e f g)

-- the stages of the set that has some names
abbrev stages_by : (SyncName → Bool) → Stages
stages_by has = record { 0 = united has stage_bit_of_name 0 sync_names }

-- a test that all sets pass, this one passes
at_set : (test : (SyncName → Bool) → Bool) → all_marks (by_marks test) ≡ true → (s : Sync) →
    test (marked (sync_has s NONE) (sync_has s ALL) (sync_has s COMPUTE_SHADING) (sync_has s ALL_SHADING) (sync_has s NON_PIXEL_SHADING) (sync_has s COPY) (sync_has s CLEAR_UNORDERED_ACCESS_VIEW)) ≡ true
at_set test h s =
    at_marks (by_marks test) h (sync_has s NONE) (sync_has s ALL) (sync_has s COMPUTE_SHADING) (sync_has s ALL_SHADING) (sync_has s NON_PIXEL_SHADING) (sync_has s COPY) (sync_has s CLEAR_UNORDERED_ACCESS_VIEW)

-- where a set has a part, its stages stand for the part's
abbrev takes_part : Part → (SyncName → Bool) → Bool
takes_part part has = implies (list_any (λ name. is_part_of (parts_of_name name) part && has name) sync_names) (stands_for_stage (stages_by has) (stage_of_part part))

each_takes_part : (part : Part) → all_marks (by_marks (takes_part part)) ≡ true
each_takes_part part.Copy = refl
each_takes_part part.Compute = refl
each_takes_part part.Clear = refl

pub takes_in_part : (part : Part) (s : Sync) → has_part part s ≡ true → stands_for_stage (stage_of s) (stage_of_part part) ≡ true
unfolding has_part stage_of
takes_in_part part s h = where_first (has_part part s) (stands_for_stage (stage_of s) (stage_of_part part)) (at_set (takes_part part) (each_takes_part part) s) h

-- where a set has a sync, its stages have the sync's
abbrev has_own : SyncName → (SyncName → Bool) → Bool
has_own name has = implies (has name) (has_stage (stages_by has) (stage_of_name name))

each_has_own : (name : SyncName) → all_marks (by_marks (has_own name)) ≡ true
each_has_own NONE = refl
each_has_own ALL = refl
each_has_own COMPUTE_SHADING = refl
each_has_own ALL_SHADING = refl
each_has_own NON_PIXEL_SHADING = refl
each_has_own COPY = refl
each_has_own CLEAR_UNORDERED_ACCESS_VIEW = refl

own_or_not : (name : SyncName) (s : Sync) → implies (sync_has s name) (has_stage (stage_of s) (stage_of_name name)) ≡ true
unfolding stage_of
own_or_not NONE s = at_set (has_own NONE) (each_has_own NONE) s
own_or_not ALL s = at_set (has_own ALL) (each_has_own ALL) s
own_or_not COMPUTE_SHADING s = at_set (has_own COMPUTE_SHADING) (each_has_own COMPUTE_SHADING) s
own_or_not ALL_SHADING s = at_set (has_own ALL_SHADING) (each_has_own ALL_SHADING) s
own_or_not NON_PIXEL_SHADING s = at_set (has_own NON_PIXEL_SHADING) (each_has_own NON_PIXEL_SHADING) s
own_or_not COPY s = at_set (has_own COPY) (each_has_own COPY) s
own_or_not CLEAR_UNORDERED_ACCESS_VIEW s = at_set (has_own CLEAR_UNORDERED_ACCESS_VIEW) (each_has_own CLEAR_UNORDERED_ACCESS_VIEW) s

pub own_stage : (name : SyncName) (s : Sync) → sync_has s name ≡ true → has_stage (stage_of s) (stage_of_name name) ≡ true
own_stage name s h = where_first (sync_has s name) (has_stage (stage_of s) (stage_of_name name)) (own_or_not name s) h

-- where a set has a sync, it has a stage of the device
abbrev has_some : (SyncName → Bool) → Bool
has_some has = implies (list_any has sync_names) (meets (stages_by has) (only_stage AllCommands))

some_or_none : (s : Sync) → implies (list_any (sync_has s) sync_names) (meets (stage_of s) (only_stage AllCommands)) ≡ true
unfolding stage_of
some_or_none s = at_set has_some refl s

pub has_stages : (s : Sync) → is_well_formed_sync s ≡ true → meets (stage_of s) (only_stage AllCommands) ≡ true
has_stages s h =
    let named : (name : SyncName) × (sync_has s name ≡ true) = sync_name s h in
    where_first (list_any (sync_has s) sync_names) (meets (stage_of s) (only_stage AllCommands)) (some_or_none s) (any_sync (sync_has s) named.0 named.1)
