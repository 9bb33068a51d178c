-- Which accesses fit which syncs.
use Rattle.std.specs.Prelude.{Bool, not, List, [], ◌∷◌, ◌==◌, ◌&&◌, ◌||◌}
use Rattle.std.specs.List.{list_any, list_all}
use Rattle.dx_flags.specs.declared.syncs.Sync.{Sync}
use Rattle.dx_flags.specs.declared.accesses.Access.{Access}
use Rattle.dx_flags.specs.SyncNames.{SyncName, sync_names, NONE, ALL, COMPUTE_SHADING, ALL_SHADING, NON_PIXEL_SHADING, COPY, CLEAR_UNORDERED_ACCESS_VIEW}
use Rattle.dx_flags.specs.AccessNames.{AccessName, access_bit, access_names, UNORDERED_ACCESS, SHADER_RESOURCE, CONSTANT_BUFFER, COPY_SOURCE, COPY_DEST, COMMON, NO_ACCESS}
use Rattle.dx_flags.specs.Syncs.{sync_has}
use Rattle.dx_flags.specs.Accesses.{access_has}

-- an access is one of these
abbrev pub is_access_of : List AccessName → AccessName → Bool
is_access_of ones name = list_any (λ one. access_bit one == access_bit name) ones

-- the accesses that fit each sync
abbrev pub accesses_of_name : SyncName → List AccessName
accesses_of_name NONE = NO_ACCESS ∷ []
accesses_of_name ALL = access_names
accesses_of_name COMPUTE_SHADING = UNORDERED_ACCESS ∷ SHADER_RESOURCE ∷ CONSTANT_BUFFER ∷ COMMON ∷ NO_ACCESS ∷ []
accesses_of_name ALL_SHADING = UNORDERED_ACCESS ∷ SHADER_RESOURCE ∷ CONSTANT_BUFFER ∷ COMMON ∷ NO_ACCESS ∷ []
accesses_of_name NON_PIXEL_SHADING = UNORDERED_ACCESS ∷ SHADER_RESOURCE ∷ CONSTANT_BUFFER ∷ COMMON ∷ NO_ACCESS ∷ []
accesses_of_name COPY = COPY_SOURCE ∷ COPY_DEST ∷ COMMON ∷ NO_ACCESS ∷ []
accesses_of_name CLEAR_UNORDERED_ACCESS_VIEW = UNORDERED_ACCESS ∷ COMMON ∷ NO_ACCESS ∷ []

-- an access fits some sync of a set
unfoldable pub fits_some : Sync → AccessName → Bool
fits_some sync access = list_any (λ name. is_access_of (accesses_of_name name) access && sync_has sync name) sync_names

-- each access of a set fits some sync of a set
unfoldable pub fits_of : Sync → Access → Bool
fits_of sync access = list_all (λ name. fits_some sync name || not (access_has access name)) access_names
