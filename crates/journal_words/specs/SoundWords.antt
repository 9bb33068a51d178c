-- Values that words may write: each number is one of its field.
use Rattle.std.specs.Prelude.{ℕ, ◌^◌, ◌&&◌, nat_lt, Bool, true, Option, Some, None}
use Rattle.vk_types.specs.declared.registers.Count.{Count}
use Rattle.vk_types.specs.declared.registers.Count.TheVariants as count
use Rattle.vk_types.specs.declared.registers.Register.{Register}
use Rattle.vk_types.specs.declared.registers.Register.TheVariants as register

-- a number of 32 bits, and of 64
abbrev pub is_narrow : ℕ → Bool
is_narrow n = nat_lt n (2 ^ 32)

abbrev pub is_wide : ℕ → Bool
is_wide n = nat_lt n (2 ^ 64)

-- a set of names of stages, and of accesses
abbrev pub is_stage_set : ℕ → Bool
is_stage_set s = nat_lt s 16

abbrev pub is_access_set : ℕ → Bool
is_access_set s = nat_lt s 512

-- the numbers of a register and of a count
abbrev pub is_sound_register : Register → Bool
is_sound_register register.Unbound = true
is_sound_register (register.Constant word) = is_narrow word
is_sound_register (register.Root buffer first) = is_narrow buffer && is_narrow first
is_sound_register (register.Fixed view) = is_narrow view
is_sound_register (register.Slot heap slot) = is_narrow heap && is_narrow slot

abbrev pub is_sound_count : Count → Bool
is_sound_count (count.Number n) = is_narrow n
is_sound_count (count.Word buffer word most) = is_narrow buffer && (is_narrow word && is_narrow most)

abbrev pub is_sound_sub : Option ℕ → Bool
is_sound_sub None = true
is_sound_sub (Some sub) = is_narrow sub

-- pairs of a timeline and a value
abbrev pub is_sound_pair : ℕ × ℕ → Bool
is_sound_pair p = is_narrow p.0 && is_wide p.1
