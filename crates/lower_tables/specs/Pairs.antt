-- The pairs of a part and a kind that resource states have.
use Rattle.std.specs.Prelude.{Bool, List, [], ◌∷◌, ◌&&◌}
use Rattle.std.specs.List.{list_any}
use Rattle.dx_flags.specs.declared.atoms.Kind.{Kind}
use Rattle.dx_flags.specs.declared.atoms.Kind.TheVariants.{UnorderedAccess, ShaderResource, ConstantBuffer, CopySource, CopyDest}
use Rattle.dx_flags.specs.declared.atoms.Part.{Part}
use Rattle.dx_flags.specs.declared.atoms.Part.TheVariants.{Copy, Compute, Clear}
use Rattle.dx_flags.specs.declared.states.State.{State}
use Rattle.dx_flags.specs.Kinds.{all_kinds, is_kind_of}
use Rattle.dx_flags.specs.Parts.{all_parts, is_part_of}
use Rattle.dx_flags.specs.StateNames.{StateName, state_names, COMMON, VERTEX_AND_CONSTANT_BUFFER, NON_PIXEL_SHADER_RESOURCE, PIXEL_SHADER_RESOURCE, COPY_SOURCE, COPY_DEST, UNORDERED_ACCESS}
use Rattle.dx_flags.specs.States.{state_has}

-- the parts of each state
abbrev pub parts_of_state : StateName → List Part
parts_of_state COMMON = all_parts
parts_of_state VERTEX_AND_CONSTANT_BUFFER = Compute ∷ Clear ∷ []
parts_of_state NON_PIXEL_SHADER_RESOURCE = Compute ∷ Clear ∷ []
parts_of_state PIXEL_SHADER_RESOURCE = Compute ∷ Clear ∷ []
parts_of_state COPY_SOURCE = Copy ∷ []
parts_of_state COPY_DEST = Copy ∷ []
parts_of_state UNORDERED_ACCESS = Compute ∷ Clear ∷ []

-- the kinds of each state
abbrev pub kinds_of_state : StateName → List Kind
kinds_of_state COMMON = all_kinds
kinds_of_state VERTEX_AND_CONSTANT_BUFFER = ConstantBuffer ∷ []
kinds_of_state NON_PIXEL_SHADER_RESOURCE = ShaderResource ∷ []
kinds_of_state PIXEL_SHADER_RESOURCE = ShaderResource ∷ []
kinds_of_state COPY_SOURCE = CopySource ∷ []
kinds_of_state COPY_DEST = CopyDest ∷ []
kinds_of_state UNORDERED_ACCESS = UnorderedAccess ∷ []

-- a state has a part and a kind
abbrev pub name_has_pair : Part → Kind → StateName → Bool
name_has_pair part kind name = is_part_of (parts_of_state name) part && is_kind_of (kinds_of_state name) kind

-- some state of a union has a part and a kind
unfoldable pub state_has_pair : State → Part → Kind → Bool
state_has_pair state part kind = list_any (λ name. name_has_pair part kind name && state_has state name) state_names
