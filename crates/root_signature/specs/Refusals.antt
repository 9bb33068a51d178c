-- Which root signatures are refused.
use Rattle.std.specs.Prelude.{ℕ, ◌+◌, ◌<◌, ◌==◌, ◌||◌, ◌⊎◌, nat_lt, Bool, IsTrue, List, length}
use Rattle.std.specs.List.{list_any}
use Rattle.dx_base.specs.declared.kinds.Class.{Class}
use Rattle.root_signature.specs.declared.params.Param.{Param}
use Rattle.root_signature.specs.declared.params.Param.TheVariants.{Const, Root, Table}
use Rattle.root_signature.specs.declared.ranges.Range.{Range}
use Rattle.root_signature.specs.declared.versions.Version.{Version}
use Rattle.root_signature.specs.Costs.{costs_too_much}
use Rattle.root_signature.specs.Flags.{is_too_new, has_unknown_flag, has_two_data_flags, has_two_descriptor_flags, has_static_data_of_volatile, has_descriptor_flag}
use Rattle.root_signature.specs.Places.{places_of}
use Rattle.root_signature.specs.Ranges.{range_of_constants, range_of_root}

-- a count is 0
abbrev pub has_no_registers : Range → Bool
has_no_registers range = range.count == 0

-- register plus count is above 64
abbrev pub passes_registers : Range → Bool
passes_registers range = nat_lt 64 (range.register + range.count)

-- a flag word is refused by one of its rows
abbrev pub is_refused_word : Version → ℕ → Bool
is_refused_word version flags =
    is_too_new version flags || (has_unknown_flag flags || (has_two_data_flags flags
    || (has_two_descriptor_flags flags || has_static_data_of_volatile flags)))

-- a range is refused by one of its rows
abbrev pub is_refused_range : Version → Range → Bool
is_refused_range version range = has_no_registers range || (passes_registers range || is_refused_word version range.flags)

-- a parameter is refused: one of the ranges that it covers, or the flag word of a root descriptor
abbrev pub is_refused_param : Version → Param → Bool
is_refused_param version (Const register count) = is_refused_range version (range_of_constants register count)
is_refused_param version (Root class register flags) =
    has_descriptor_flag flags || is_refused_range version (range_of_root class register flags)
is_refused_param version (Table ranges) = list_any (is_refused_range version) ranges.items

-- two parameters or ranges cover one register of one class
pub record CoversTwice (params : List Param) : Type 0 where
  pub class : Class
  pub register : ℕ
  pub twice : 1 < length (places_of params class register)

-- a signature is refused exactly where one of these holds
abbrev pub IsRefused : Version → List Param → Type 0
IsRefused version params =
    IsTrue (costs_too_much params) ⊎ (IsTrue (list_any (is_refused_param version) params) ⊎ CoversTwice params)
