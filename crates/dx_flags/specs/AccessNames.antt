-- The names of accesses.
use Rattle.std.specs.Prelude.{ℕ, List, [], ◌∷◌, codes, map}

-- an access (DirectX-Specs, Enhanced Barriers: D3D12_BARRIER_ACCESS)
pub data AccessName : Type 0 where
  UNORDERED_ACCESS : AccessName
  SHADER_RESOURCE : AccessName
  CONSTANT_BUFFER : AccessName
  COPY_SOURCE : AccessName
  COPY_DEST : AccessName
  COMMON : AccessName
  NO_ACCESS : AccessName

-- the bit of each access
abbrev pub access_bit : AccessName → ℕ
access_bit UNORDERED_ACCESS = 1
access_bit SHADER_RESOURCE = 2
access_bit CONSTANT_BUFFER = 4
access_bit COPY_SOURCE = 8
access_bit COPY_DEST = 16
access_bit COMMON = 32
access_bit NO_ACCESS = 64

-- the text of each access
abbrev pub access_text : AccessName → List ℕ
access_text UNORDERED_ACCESS = codes "UNORDERED_ACCESS"
access_text SHADER_RESOURCE = codes "SHADER_RESOURCE"
access_text CONSTANT_BUFFER = codes "CONSTANT_BUFFER"
access_text COPY_SOURCE = codes "COPY_SOURCE"
access_text COPY_DEST = codes "COPY_DEST"
access_text COMMON = codes "COMMON"
access_text NO_ACCESS = codes "NO_ACCESS"

-- all accesses, in the order of their bits
abbrev pub access_names : List AccessName
access_names = UNORDERED_ACCESS ∷ SHADER_RESOURCE ∷ CONSTANT_BUFFER ∷ COPY_SOURCE ∷ COPY_DEST ∷ COMMON ∷ NO_ACCESS ∷ []

-- an access's row in the table of names
abbrev pub access_row : AccessName → List ℕ × ℕ
access_row name = (access_text name, access_bit name)

-- the text and the bit of each access, in the order of the bits
abbrev pub access_table : List (List ℕ × ℕ)
access_table = map access_row access_names
