-- Lines of words, and the words of numbers.
use Rattle.std.specs.Prelude.{ℕ, zero, suc, ◌/◌, ◌%◌, ◌==◌, ◌&&◌, nat_lt, length, List, [], ◌∷◌, ◌++◌, if◌then◌else◌}
use Rattle.std.specs.Char.{digit_char}

-- the last hexadecimal digits of a number, that many
unfoldable pub hex_from : ℕ → ℕ → List ℕ
hex_from zero n = []
hex_from (suc k) n = hex_from k (n / 16) ++ digit_char (n % 16) ∷ []

-- eight lower-case hexadecimal digits
unfoldable pub hex_word : ℕ → List ℕ
hex_word n = hex_from 8 n

-- digits without leading zeros, at least one
unfoldable pub without_zeros : List ℕ → List ℕ
without_zeros [] = []
without_zeros (b ∷ bs) = if b == 48 && nat_lt 0 (length bs) then without_zeros bs else b ∷ bs

-- the hexadecimal digits of a number of 32 bits, without leading zeros
unfoldable pub flag_word : ℕ → List ℕ
flag_word n = without_zeros (hex_word n)

-- what stands behind the first word of a line: each word behind a space, then a line feed
unfoldable pub rest_of_line : List (List ℕ) → List ℕ
rest_of_line [] = 10 ∷ []
rest_of_line (word ∷ words) = 32 ∷ (word ++ rest_of_line words)

-- a line: its words with single spaces between, then a line feed
unfoldable pub line_text : List (List ℕ) → List ℕ
line_text [] = 10 ∷ []
line_text (word ∷ words) = word ++ rest_of_line words
