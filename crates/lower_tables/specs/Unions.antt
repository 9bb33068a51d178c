-- Unions of bits.
use Rattle.std.specs.Prelude.{ℕ, Bool, List, [], ◌∷◌, bit_or, if◌then◌else◌}

-- some bits with those of each item that passes a test
abbrev pub united : {X : Type 0} → (X → Bool) → (X → ℕ) → ℕ → List X → ℕ
united test bits found [] = found
united test bits found (x ∷ xs) = united test bits (if test x then bit_or found (bits x) else found) xs
