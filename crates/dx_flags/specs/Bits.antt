-- Bits of sets.
use Rattle.std.specs.Prelude.{ℕ, Bool, true, false}

-- a bit where a set has it, and otherwise none
abbrev pub bit_where : Bool → ℕ → ℕ
bit_where true bit = bit
bit_where false bit = 0
