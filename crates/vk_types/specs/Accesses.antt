-- The names in sets of memory accesses.
use Rattle.std.specs.Prelude.{ℕ, Bool, not, ◌==◌, bit_and}
use Rattle.vk_types.specs.declared.accesses.Access.{Access}
use Rattle.vk_types.specs.declared.accesses.Access.TheVariants.{MemoryRead, MemoryWrite, ShaderStorageRead, ShaderStorageWrite, ShaderRead, UniformRead, TransferRead, TransferWrite, HostRead}
use Rattle.vk_types.specs.declared.accesses.AccessGroup.{AccessGroup}
use Rattle.vk_types.specs.declared.accesses.AccessGroup.TheVariants.{Memory, Shader, Transfer, Host}
use Rattle.vk_types.specs.declared.accesses.Accesses.{Accesses}

-- the bit of a name
abbrev pub access_bit : Access → ℕ
access_bit MemoryRead = 1
access_bit MemoryWrite = 2
access_bit ShaderStorageRead = 4
access_bit ShaderStorageWrite = 8
access_bit ShaderRead = 16
access_bit UniformRead = 32
access_bit TransferRead = 64
access_bit TransferWrite = 128
access_bit HostRead = 256

-- a set has this name
abbrev pub has_access : Accesses → Access → Bool
has_access accesses access = not (bit_and accesses.0 (access_bit access) == 0)

-- the group of an access
abbrev pub group_of : Access → AccessGroup
group_of MemoryRead = Memory
group_of MemoryWrite = Memory
group_of ShaderStorageRead = Shader
group_of ShaderStorageWrite = Shader
group_of ShaderRead = Shader
group_of UniformRead = Shader
group_of TransferRead = Transfer
group_of TransferWrite = Transfer
group_of HostRead = Host
