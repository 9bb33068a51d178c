-- The lines of a text, and the words of a line.
use Rattle.std.specs.Prelude.{ℕ, ◌&&◌, nat_le, List, length, Bool}
use Rattle.std.specs.List.{list_all}
use Rattle.trace_words.specs.Cut.{pieces_at}

-- what stands before each line feed, and at the end what stands behind the last one
abbrev pub pieces_of : List ℕ → List (List ℕ)
pieces_of text = pieces_at 10 text

-- the words of a line, which single spaces part
abbrev pub words_of : List ℕ → List (List ℕ)
words_of line = pieces_at 32 line

-- a byte that may stand in a line
abbrev pub is_plain_byte : ℕ → Bool
is_plain_byte b = nat_le 32 b && nat_le b 126

-- at most 4,096 bytes, each from 32 to 126
unfoldable pub is_plain : List ℕ → Bool
is_plain line = nat_le (length line) 4096 && list_all is_plain_byte line
