-- The texts of the grammar.
use Rattle.std.specs.Prelude.{ℕ, ◌≡◌, ◌≤◌, List, [], ◌∷◌, ◌++◌, length, flat_map}
use Rattle.trace_text.specs.Values.{Value, AreLinesOf}

-- the text of lines: each is ended by a line feed
abbrev pub text_of_lines : List (List ℕ) → List ℕ
text_of_lines lines = flat_map (λ line. line ++ 10 ∷ []) lines

-- a text writes a value: its lines do, and it is at most 16,777,216 bytes long
pub record IsTextOf (text : List ℕ) (v : Value) : Type 0 where
  pub lines : List (List ℕ)
  pub write : AreLinesOf lines v
  pub text_is : text ≡ text_of_lines lines
  pub short : length text ≤ 16777216
