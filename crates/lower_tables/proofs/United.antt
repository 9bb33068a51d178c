-- Unions, an item at a time.
use Rattle.std.proofs.Common.{◌≡◌, ℕ, ◌+◌, ◌<◌, Bool, List, length, drop, get_or, bit_or, if◌then◌else◌, refl}
use Rattle.std.proofs.lemmas.List.{drop_more}
use Rattle.lower_tables.specs.Unions.{united}

-- the bits with those of the item at a place are united with what is behind it
pub united_more : {X : Type 0} (test : X → Bool) (bits : X → ℕ) (found : ℕ) (xs : List X) (i : ℕ) (x : X) → i < length xs →
    united test bits found (drop i xs) ≡ united test bits (if test (get_or xs i x) then bit_or found (bits (get_or xs i x)) else found) (drop (i + 1) xs)
united_more test bits found xs i x within = rw (drop_more xs i x within) refl
