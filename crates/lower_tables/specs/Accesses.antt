-- The memory accesses of accesses.
use Rattle.std.specs.Prelude.{ℕ, List, [], ◌∷◌, bit_or}
use Rattle.dx_flags.specs.declared.accesses.Access.{Access}
use Rattle.dx_flags.specs.AccessNames.{AccessName, access_names, UNORDERED_ACCESS, SHADER_RESOURCE, CONSTANT_BUFFER, COPY_SOURCE, COPY_DEST, COMMON, NO_ACCESS}
use Rattle.dx_flags.specs.Accesses.{access_has}
use Rattle.vk_types.specs.declared.accesses.Access.{Access as VkAccess}
use Rattle.vk_types.specs.declared.accesses.Access.TheVariants.{MemoryRead, MemoryWrite, ShaderStorageRead, ShaderStorageWrite, ShaderRead, UniformRead, TransferRead, TransferWrite}
use Rattle.vk_types.specs.declared.accesses.Accesses.{Accesses}
use Rattle.vk_types.specs.Accesses.{access_bit}
use Rattle.lower_tables.specs.Unions.{united}

-- the memory accesses of each access (Vulkan 1.3, 7.1.3)
abbrev pub accesses_of_name : AccessName → List VkAccess
accesses_of_name UNORDERED_ACCESS = ShaderStorageRead ∷ ShaderStorageWrite ∷ []
accesses_of_name SHADER_RESOURCE = ShaderRead ∷ []
accesses_of_name CONSTANT_BUFFER = UniformRead ∷ []
accesses_of_name COPY_SOURCE = TransferRead ∷ []
accesses_of_name COPY_DEST = TransferWrite ∷ []
accesses_of_name COMMON = MemoryRead ∷ MemoryWrite ∷ []
accesses_of_name NO_ACCESS = []

-- the bits of some memory accesses
abbrev pub bits_of : List VkAccess → ℕ
bits_of [] = 0
bits_of (one ∷ more) = bit_or (access_bit one) (bits_of more)

-- the bits of an access's memory accesses
abbrev pub access_bits_of_name : AccessName → ℕ
access_bits_of_name name = bits_of (accesses_of_name name)

-- the memory accesses of a set: those of its accesses
unfoldable pub access_of : Access → Accesses
access_of access = record { 0 = united (access_has access) access_bits_of_name 0 access_names }
