-- What root signatures cost.
use Rattle.std.specs.Prelude.{ℕ, ◌+◌, nat_le, nat_lt, Bool, true, List, [], ◌∷◌}
use Rattle.root_signature.specs.declared.params.Param.{Param}
use Rattle.root_signature.specs.declared.params.Param.TheVariants.{Const, Root, Table}

-- what a parameter costs, in words of 32 bits: constants a word each, the address in a root descriptor two, the place of
-- a table one (Direct3D 12 programming guide, "Root Signature Limits")
abbrev pub cost_of_param : Param → ℕ
cost_of_param (Const register count) = count
cost_of_param (Root class register flags) = 2
cost_of_param (Table ranges) = 1

-- what parameters cost together
abbrev pub cost_of : List Param → ℕ
cost_of [] = 0
cost_of (param ∷ params) = cost_of_param param + cost_of params

-- a parameter has at most 64 constants
abbrev pub has_few_constants : Param → Bool
has_few_constants (Const register count) = nat_le count 64
has_few_constants (Root class register flags) = true
has_few_constants (Table ranges) = true

-- the cost is above 64
abbrev pub costs_too_much : List Param → Bool
costs_too_much params = nat_lt 64 (cost_of params)
