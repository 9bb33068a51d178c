-- What rows of tables give.
use Rattle.std.specs.Prelude.{ℕ, List, [], ◌∷◌, Option, Some, None, ◌==◌, if◌then◌else◌}

-- the value of the first row with a key
abbrev pub first_value : {V : Type 0} → ℕ → List (ℕ × V) → Option V
first_value key [] = None
first_value key (row ∷ rows) = if row.0 == key then Some row.1 else first_value key rows
