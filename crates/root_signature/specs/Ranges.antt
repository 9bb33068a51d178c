-- Ranges of registers, and what parameters cover.
use Rattle.std.specs.Prelude.{ℕ, ◌+◌, ◌&&◌, nat_le, nat_lt, Bool, true, false, List, [], ◌∷◌}
use Rattle.dx_base.specs.declared.kinds.Class.{Class}
use Rattle.dx_base.specs.declared.kinds.Class.TheVariants.{Cbv, Srv, Uav}
use Rattle.root_signature.specs.declared.params.Param.{Param}
use Rattle.root_signature.specs.declared.params.Param.TheVariants.{Const, Root, Table}
use Rattle.root_signature.specs.declared.ranges.Range.{Range}

-- two classes are one
abbrev pub is_class : Class → Class → Bool
is_class Cbv Cbv = true
is_class Cbv Srv = false
is_class Cbv Uav = false
is_class Srv Cbv = false
is_class Srv Srv = true
is_class Srv Uav = false
is_class Uav Cbv = false
is_class Uav Srv = false
is_class Uav Uav = true

-- a range covers a register of a class
abbrev pub covers : Range → Class → ℕ → Bool
covers range class register =
    is_class range.class class && (nat_le range.register register && nat_lt register (range.register + range.count))

-- each single constant covers one register of class cbv
abbrev pub range_of_constants : ℕ → ℕ → Range
range_of_constants register count = record { class = Cbv; register = register; count = count; flags = 0 }

-- a root descriptor covers one register of its class
abbrev pub range_of_root : Class → ℕ → ℕ → Range
range_of_root class register flags = record { class = class; register = register; count = 1; flags = flags }

-- what a parameter covers, as ranges in order: a table's are its own
abbrev pub ranges_of : Param → List Range
ranges_of (Const register count) = range_of_constants register count ∷ []
ranges_of (Root class register flags) = range_of_root class register flags ∷ []
ranges_of (Table ranges) = ranges.items
