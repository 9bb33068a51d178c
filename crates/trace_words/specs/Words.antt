-- The words of a text: names, numbers and data words.
use Rattle.std.specs.Prelude.{ℕ, ◌==◌, ◌&&◌, ◌||◌, not, nat_le, List, [], ◌∷◌, length, Option, Some, None, Bool, false, if◌then◌else◌}
use Rattle.std.specs.List.{list_all}
use Rattle.std.specs.Char.{is_ascii_digit}
use Rattle.std.specs.Str.Parse.{digits_value}

-- `a` to `z`
abbrev pub is_letter : ℕ → Bool
is_letter b = nat_le 97 b && nat_le b 122

-- `a` to `z`, `0` to `9` and `_`
abbrev pub is_name_byte : ℕ → Bool
is_name_byte b = is_letter b || (is_ascii_digit b || b == 95)

-- one or more bytes of `a` to `z`, `0` to `9` and `_`, of which the first is a letter
unfoldable pub is_name : List ℕ → Bool
is_name [] = false
is_name (b ∷ bs) = is_letter b && list_all is_name_byte bs

-- one or more decimal digits, without a leading zero
unfoldable pub is_number : List ℕ → Bool
is_number [] = false
is_number (b ∷ []) = is_ascii_digit b
is_number (b ∷ c ∷ bs) = not (b == 48) && list_all is_ascii_digit (b ∷ c ∷ bs)

-- `0` to `9` and `a` to `f`
abbrev pub is_hex_digit : ℕ → Bool
is_hex_digit b = (nat_le 48 b && nat_le b 57) || (nat_le 97 b && nat_le b 102)

-- 1 to 8 hexadecimal digits in lower case
unfoldable pub is_data_word : List ℕ → Bool
is_data_word word = nat_le 1 (length word) && (nat_le (length word) 8 && list_all is_hex_digit word)

-- the number that a data word writes
unfoldable pub data_word_of : List ℕ → Option ℕ
data_word_of word = if is_data_word word then Some (digits_value 16 word) else None
