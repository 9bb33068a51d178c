-- What the parts and kinds of Direct3D's work become on the device.
use Rattle.std.specs.Prelude.{Bool, List, [], ◌∷◌, ◌==◌}
use Rattle.std.specs.List.{list_any}
use Rattle.dx_flags.specs.declared.atoms.Kind.{Kind}
use Rattle.dx_flags.specs.declared.atoms.Kind.TheVariants.{UnorderedAccess, ShaderResource, ConstantBuffer, CopySource, CopyDest}
use Rattle.dx_flags.specs.declared.atoms.Part.{Part}
use Rattle.dx_flags.specs.declared.atoms.Part.TheVariants as part
use Rattle.vk_types.specs.declared.accesses.Access.{Access}
use Rattle.vk_types.specs.declared.accesses.Access.TheVariants.{ShaderStorageRead, ShaderStorageWrite, ShaderRead, UniformRead, TransferRead, TransferWrite}
use Rattle.vk_types.specs.declared.stages.Stage.{Stage}
use Rattle.vk_types.specs.declared.stages.Stage.TheVariants.{ComputeShader, Copy}
use Rattle.vk_types.specs.Accesses.{access_bit}

-- the stage in which a part's commands are done: a clear is done by a shader
abbrev pub stage_of_part : Part → Stage
stage_of_part part.Copy = Copy
stage_of_part part.Compute = ComputeShader
stage_of_part part.Clear = ComputeShader

-- the memory accesses that a command makes by an access of a kind
abbrev pub accesses_of_kind : Kind → List Access
accesses_of_kind UnorderedAccess = ShaderStorageRead ∷ ShaderStorageWrite ∷ []
accesses_of_kind ShaderResource = ShaderRead ∷ []
accesses_of_kind ConstantBuffer = UniformRead ∷ []
accesses_of_kind CopySource = TransferRead ∷ []
accesses_of_kind CopyDest = TransferWrite ∷ []

-- an access is one of these
abbrev pub is_one_of : List Access → Access → Bool
is_one_of ones access = list_any (λ one. access_bit one == access_bit access) ones

-- a command makes this memory access by an access of a kind
abbrev pub is_made_by : Kind → Access → Bool
is_made_by kind access = is_one_of (accesses_of_kind kind) access
