-- Which barriers are legal.
use Rattle.std.specs.Prelude.{Bool, true, false, not, ◌&&◌, ◌||◌}
use Rattle.std.specs.List.{list_all}
use Rattle.dx_base.specs.declared.kinds.ListType.{ListType}
use Rattle.dx_base.specs.declared.kinds.ListType.TheVariants.{Direct, Compute, Copy}
use Rattle.dx_flags.specs.declared.layouts.Layout.{Layout}
use Rattle.dx_flags.specs.declared.layouts.Layout.TheVariants.{Undefined, Common, GenericRead, UnorderedAccess, ShaderResource, CopySource, CopyDest}
use Rattle.dx_flags.specs.declared.syncs.Sync.{Sync}
use Rattle.dx_flags.specs.declared.accesses.Access.{Access}
use Rattle.dx_flags.specs.AccessNames as access
use Rattle.dx_flags.specs.AccessNames.{AccessName, access_names}
use Rattle.dx_flags.specs.Accesses.{access_has, is_well_formed_access}
use Rattle.dx_flags.specs.Fits.{fits_of}
use Rattle.dx_flags.specs.Layouts.{allows}
use Rattle.dx_flags.specs.SyncNames as sync
use Rattle.dx_flags.specs.SyncNames.{SyncName, sync_names}
use Rattle.dx_flags.specs.Syncs.{sync_has, is_well_formed_sync}
use Rattle.enhanced_barriers.specs.declared.barriers.Barrier.{Barrier}
use Rattle.enhanced_barriers.specs.declared.barriers.Scope.{Scope}
use Rattle.enhanced_barriers.specs.declared.barriers.Scope.TheVariants.{Global, Buffer, Texture}

-- a side of a barrier: its sets are well formed, and its access fits its sync
unfoldable pub is_side : Sync → Access → Bool
is_side sync access = is_well_formed_sync sync && (is_well_formed_access access && fits_of sync access)

-- the syncs that a copy list may name
abbrev pub is_copy_sync : SyncName → Bool
is_copy_sync sync.NONE = true
is_copy_sync sync.ALL = true
is_copy_sync sync.COMPUTE_SHADING = false
is_copy_sync sync.ALL_SHADING = false
is_copy_sync sync.NON_PIXEL_SHADING = false
is_copy_sync sync.COPY = true
is_copy_sync sync.CLEAR_UNORDERED_ACCESS_VIEW = false

-- the accesses that a copy list may name
abbrev pub is_copy_access : AccessName → Bool
is_copy_access access.UNORDERED_ACCESS = false
is_copy_access access.SHADER_RESOURCE = false
is_copy_access access.CONSTANT_BUFFER = false
is_copy_access access.COPY_SOURCE = true
is_copy_access access.COPY_DEST = true
is_copy_access access.COMMON = true
is_copy_access access.NO_ACCESS = true

-- the layouts that a copy list may name
abbrev pub is_copy_layout : Layout → Bool
is_copy_layout Undefined = true
is_copy_layout Common = true
is_copy_layout GenericRead = false
is_copy_layout UnorderedAccess = false
is_copy_layout ShaderResource = false
is_copy_layout CopySource = false
is_copy_layout CopyDest = false

-- a copy list may name each sync of a set
unfoldable pub are_copy_syncs : Sync → Bool
are_copy_syncs syncs = list_all (λ name. is_copy_sync name || not (sync_has syncs name)) sync_names

-- a copy list may name each access of a set
unfoldable pub are_copy_accesses : Access → Bool
are_copy_accesses accesses = list_all (λ name. is_copy_access name || not (access_has accesses name)) access_names

-- a copy list may name the syncs, the accesses and the layout of a side
unfoldable pub is_copy_side : Sync → Access → Layout → Bool
is_copy_side syncs accesses layout = are_copy_syncs syncs && (are_copy_accesses accesses && is_copy_layout layout)

-- a list of the type may name what the barrier names
abbrev pub suits_list : Barrier → ListType → Bool
suits_list barrier Direct = true
suits_list barrier Compute = true
suits_list barrier Copy =
    is_copy_side barrier.sync_before barrier.access_before barrier.layout_before
    && is_copy_side barrier.sync_after barrier.access_after barrier.layout_after

-- a layout allows a set of accesses to a barrier: COMMON in every layout, and otherwise as the table has it
unfoldable pub layout_takes : Layout → Access → Bool → Bool
layout_takes layout accesses shared = access_has accesses access.COMMON || allows layout accesses shared

-- the layout is UNDEFINED
abbrev pub is_undefined : Layout → Bool
is_undefined Undefined = true
is_undefined Common = false
is_undefined GenericRead = false
is_undefined UnorderedAccess = false
is_undefined ShaderResource = false
is_undefined CopySource = false
is_undefined CopyDest = false

-- of a texture, the layout after is known and allows the access after, and the layout before is unknown or allows the
-- access before
abbrev pub suits_layouts : Scope → Barrier → Bool → Bool
suits_layouts Global barrier shared = true
suits_layouts (Buffer id) barrier shared = true
suits_layouts (Texture id sub) barrier shared =
    not (is_undefined barrier.layout_after)
    && (layout_takes barrier.layout_after barrier.access_after shared
    && (is_undefined barrier.layout_before || layout_takes barrier.layout_before barrier.access_before shared))

-- a list of the type may record the barrier, whose texture is shared or plain
unfoldable pub is_legal : Barrier → ListType → Bool → Bool
is_legal barrier list shared =
    (is_side barrier.sync_before barrier.access_before && is_side barrier.sync_after barrier.access_after)
    && (suits_list barrier list && suits_layouts barrier.scope barrier shared)
