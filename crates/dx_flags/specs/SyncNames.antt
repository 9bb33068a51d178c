-- The names of synchronization scopes.
use Rattle.std.specs.Prelude.{ℕ, List, [], ◌∷◌, codes, map}

-- a synchronization scope (DirectX-Specs, Enhanced Barriers: D3D12_BARRIER_SYNC)
pub data SyncName : Type 0 where
  NONE : SyncName
  ALL : SyncName
  COMPUTE_SHADING : SyncName
  ALL_SHADING : SyncName
  NON_PIXEL_SHADING : SyncName
  COPY : SyncName
  CLEAR_UNORDERED_ACCESS_VIEW : SyncName

-- the bit of each sync
abbrev pub sync_bit : SyncName → ℕ
sync_bit NONE = 1
sync_bit ALL = 2
sync_bit COMPUTE_SHADING = 4
sync_bit ALL_SHADING = 8
sync_bit NON_PIXEL_SHADING = 16
sync_bit COPY = 32
sync_bit CLEAR_UNORDERED_ACCESS_VIEW = 64

-- the text of each sync
abbrev pub sync_text : SyncName → List ℕ
sync_text NONE = codes "NONE"
sync_text ALL = codes "ALL"
sync_text COMPUTE_SHADING = codes "COMPUTE_SHADING"
sync_text ALL_SHADING = codes "ALL_SHADING"
sync_text NON_PIXEL_SHADING = codes "NON_PIXEL_SHADING"
sync_text COPY = codes "COPY"
sync_text CLEAR_UNORDERED_ACCESS_VIEW = codes "CLEAR_UNORDERED_ACCESS_VIEW"

-- all syncs, in the order of their bits
abbrev pub sync_names : List SyncName
sync_names = NONE ∷ ALL ∷ COMPUTE_SHADING ∷ ALL_SHADING ∷ NON_PIXEL_SHADING ∷ COPY ∷ CLEAR_UNORDERED_ACCESS_VIEW ∷ []

-- a sync's row in the table of names
abbrev pub sync_row : SyncName → List ℕ × ℕ
sync_row name = (sync_text name, sync_bit name)

-- the text and the bit of each sync, in the order of the bits
abbrev pub sync_table : List (List ℕ × ℕ)
sync_table = map sync_row sync_names
