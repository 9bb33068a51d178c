-- Tables from words.
use Rattle.std.specs.Prelude.{ℕ, ◌||◌, List, [], ◌∷◌, Option, Some, None, Bool, false, if◌then◌else◌}
use Rattle.std.specs.Str.{bytes_eq}

-- what the first row with that word has
unfoldable pub row_of : {T : Type 0} → List (List ℕ × T) → List ℕ → Option T
row_of [] word = None
row_of (row ∷ rows) word = if bytes_eq word row.0 then Some row.1 else row_of rows word

-- a word is one of some words
unfoldable pub is_among : List (List ℕ) → List ℕ → Bool
is_among [] word = false
is_among (some ∷ more) word = bytes_eq word some || is_among more word
