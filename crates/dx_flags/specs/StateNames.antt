-- The names of resource states.
use Rattle.std.specs.Prelude.{ℕ, List, [], ◌∷◌, codes, map}

-- a resource state (Direct3D 12 programming guide: D3D12_RESOURCE_STATES)
pub data StateName : Type 0 where
  COMMON : StateName
  VERTEX_AND_CONSTANT_BUFFER : StateName
  NON_PIXEL_SHADER_RESOURCE : StateName
  PIXEL_SHADER_RESOURCE : StateName
  COPY_SOURCE : StateName
  COPY_DEST : StateName
  UNORDERED_ACCESS : StateName

-- the bit of each state
abbrev pub state_bit : StateName → ℕ
state_bit COMMON = 1
state_bit VERTEX_AND_CONSTANT_BUFFER = 2
state_bit NON_PIXEL_SHADER_RESOURCE = 4
state_bit PIXEL_SHADER_RESOURCE = 8
state_bit COPY_SOURCE = 16
state_bit COPY_DEST = 32
state_bit UNORDERED_ACCESS = 64

-- the text of each state
abbrev pub state_text : StateName → List ℕ
state_text COMMON = codes "COMMON"
state_text VERTEX_AND_CONSTANT_BUFFER = codes "VERTEX_AND_CONSTANT_BUFFER"
state_text NON_PIXEL_SHADER_RESOURCE = codes "NON_PIXEL_SHADER_RESOURCE"
state_text PIXEL_SHADER_RESOURCE = codes "PIXEL_SHADER_RESOURCE"
state_text COPY_SOURCE = codes "COPY_SOURCE"
state_text COPY_DEST = codes "COPY_DEST"
state_text UNORDERED_ACCESS = codes "UNORDERED_ACCESS"

-- all states, in the order of their bits
abbrev pub state_names : List StateName
state_names =
    COMMON ∷ VERTEX_AND_CONSTANT_BUFFER ∷ NON_PIXEL_SHADER_RESOURCE ∷ PIXEL_SHADER_RESOURCE ∷ COPY_SOURCE ∷ COPY_DEST
    ∷ UNORDERED_ACCESS ∷ []

-- a state's row in the table of names
abbrev pub state_row : StateName → List ℕ × ℕ
state_row name = (state_text name, state_bit name)

-- the text and the bit of each state, in the order of the bits
abbrev pub state_table : List (List ℕ × ℕ)
state_table = map state_row state_names
