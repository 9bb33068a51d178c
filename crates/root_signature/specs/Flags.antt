-- Flag words, and what they promise.
use Rattle.std.specs.Prelude.{ℕ, ◌==◌, ◌&&◌, ◌||◌, not, cond, bit_and, Bool, false}
use Rattle.dx_base.specs.declared.kinds.Class.{Class}
use Rattle.dx_base.specs.declared.kinds.Class.TheVariants.{Cbv, Srv, Uav}
use Rattle.root_signature.specs.declared.flags.TheConstants.{DESCRIPTORS_VOLATILE, DATA_VOLATILE, DATA_STATIC_WHILE_SET_AT_EXECUTE, DATA_STATIC, DESCRIPTORS_STATIC_KEEPING_BUFFER_BOUNDS_CHECKS}
use Rattle.root_signature.specs.declared.fixities.Effective.{Effective}
use Rattle.root_signature.specs.declared.fixities.Fixity.{Fixity}
use Rattle.root_signature.specs.declared.fixities.Fixity.TheVariants.{Static, AtExecute, Volatile}
use Rattle.root_signature.specs.declared.versions.Version.{Version}
use Rattle.root_signature.specs.declared.versions.Version.TheVariants.{V10, V11}

-- a flag word has a flag
abbrev pub has : ℕ → ℕ → Bool
has flags flag = not (bit_and flags flag == 0)

-- descriptors are volatile exactly with the flag for it
abbrev pub fixity_of_descriptors : ℕ → Fixity
fixity_of_descriptors flags = cond (has flags DESCRIPTORS_VOLATILE) Volatile Static

-- data without a flag: what the device only reads stays from the execution on
abbrev pub fixity_without_flag : Class → Fixity
fixity_without_flag Cbv = AtExecute
fixity_without_flag Srv = AtExecute
fixity_without_flag Uav = Volatile

-- data is as flagged. Of several flags, which no signature has, the one that promises least counts
abbrev pub fixity_of_data : Class → ℕ → Fixity
fixity_of_data class flags =
    cond (has flags DATA_VOLATILE) Volatile
    (cond (has flags DATA_STATIC_WHILE_SET_AT_EXECUTE) AtExecute
    (cond (has flags DATA_STATIC) Static (fixity_without_flag class)))

-- what a flag word promises, in each version (DirectX-Specs, Root Signature Version 1.1)
abbrev pub effective_of : Version → Class → ℕ → Effective
effective_of V10 class flags = record { descriptors = Volatile; values = Volatile }
effective_of V11 class flags = record { descriptors = fixity_of_descriptors flags; values = fixity_of_data class flags }

-- in version 1.0 a flag word is not 0
abbrev pub is_too_new : Version → ℕ → Bool
is_too_new V10 flags = not (flags == 0)
is_too_new V11 flags = false

-- a flag word has a bit outside 1000f
abbrev pub has_unknown_flag : ℕ → Bool
has_unknown_flag flags = not (bit_and flags 0x1000f == flags)

-- a flag word has two of 2, 4 and 8
abbrev pub has_two_data_flags : ℕ → Bool
has_two_data_flags flags =
    (has flags DATA_VOLATILE && has flags DATA_STATIC_WHILE_SET_AT_EXECUTE)
    || ((has flags DATA_VOLATILE && has flags DATA_STATIC)
    || (has flags DATA_STATIC_WHILE_SET_AT_EXECUTE && has flags DATA_STATIC))

-- a flag word has 1 and 10000
abbrev pub has_two_descriptor_flags : ℕ → Bool
has_two_descriptor_flags flags =
    has flags DESCRIPTORS_VOLATILE && has flags DESCRIPTORS_STATIC_KEEPING_BUFFER_BOUNDS_CHECKS

-- a flag word has 8 and 1
abbrev pub has_static_data_of_volatile : ℕ → Bool
has_static_data_of_volatile flags = has flags DATA_STATIC && has flags DESCRIPTORS_VOLATILE

-- a flag word has 1 or 10000, which speak of descriptors in a heap
abbrev pub has_descriptor_flag : ℕ → Bool
has_descriptor_flag flags =
    has flags DESCRIPTORS_VOLATILE || has flags DESCRIPTORS_STATIC_KEEPING_BUFFER_BOUNDS_CHECKS
