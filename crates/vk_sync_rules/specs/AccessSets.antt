-- What sets of memory accesses stand for.
use Rattle.std.specs.Prelude.{ℕ, Bool, not, ◌==◌, if◌then◌else◌, bit_and, bit_or}
use Rattle.vk_types.specs.declared.accesses.Access.TheVariants.{ShaderStorageRead, ShaderStorageWrite, ShaderRead, UniformRead, TransferRead, TransferWrite, HostRead}
use Rattle.vk_types.specs.declared.accesses.Access.{Access}
use Rattle.vk_types.specs.declared.accesses.Accesses.{Accesses}
use Rattle.vk_types.specs.declared.stages.Stage.TheVariants.{AllCommands, Host}
use Rattle.vk_types.specs.declared.stages.Stages.{Stages}
use Rattle.vk_types.specs.Accesses.{access_bit}
use Rattle.vk_types.specs.Stages.{only_stage}

-- the bits of the accesses that a set stands for: MEMORY_READ is every read, MEMORY_WRITE every write (Vulkan 1.3, 7.1.3)
abbrev pub whole_accesses : Accesses → ℕ
whole_accesses a = bit_or a.0 (bit_or (if bit_and a.0 1 == 0 then 0 else 373) (if bit_and a.0 2 == 0 then 0 else 138))

-- two sets share an access
abbrev pub share : Accesses → Accesses → Bool
share one other = not (bit_and (whole_accesses one) (whole_accesses other) == 0)

-- a set has an access
abbrev pub is_some_access : Accesses → Bool
is_some_access a = not (a.0 == 0)

-- the set of one access
abbrev pub only_access : Access → Accesses
only_access access = record { 0 = access_bit access }

-- no access
abbrev pub no_accesses : Accesses
no_accesses = record { 0 = 0 }

-- every access: MEMORY_READ and MEMORY_WRITE
abbrev pub all_accesses : Accesses
all_accesses = record { 0 = 3 }

-- MEMORY_WRITE, which is every write
abbrev pub every_write : Accesses
every_write = record { 0 = 2 }

-- every stage but HOST
abbrev pub all_stages : Stages
all_stages = only_stage AllCommands

-- no stage
abbrev pub no_stages : Stages
no_stages = record { 0 = 0 }

-- where the host reads
abbrev pub host_stage : Stages
host_stage = only_stage Host

abbrev pub host_reads : Accesses
host_reads = only_access HostRead

-- the accesses of copies
abbrev pub copy_reads : Accesses
copy_reads = only_access TransferRead

abbrev pub copy_writes : Accesses
copy_writes = only_access TransferWrite

-- those of dispatches and clears, through a view of each class
abbrev pub uniform_reads : Accesses
uniform_reads = only_access UniformRead

abbrev pub shader_reads : Accesses
shader_reads = only_access ShaderRead

abbrev pub storage_reads : Accesses
storage_reads = only_access ShaderStorageRead

abbrev pub storage_writes : Accesses
storage_writes = only_access ShaderStorageWrite
