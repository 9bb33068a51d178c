-- Lines that differ in the spelling of data words alone.
use Rattle.std.specs.Prelude.{ℕ, ◌≡◌, ◌≤◌, ◌⊎◌, true, List, [], ◌∷◌, length, codes, Ok}
use Rattle.std.specs.List.{AllByRecursion}
use Rattle.trace_words.specs.Lines.{words_of, is_plain}
use Rattle.trace_words.specs.Words.{data_word_of}
use Rattle.trace_text.specs.Grammar.{text_of_lines}
use Rattle.trace_text.specs.Values.{Value, AreLinesOf, value_of}

-- words that are data words of the same numbers, each at its place, or none
abbrev pub AreSpelled : List (List ℕ) → List (List ℕ) → Type 0
AreSpelled [] [] = Unit {0}
AreSpelled [] (u ∷ us) = ⊥
AreSpelled (w ∷ ws) [] = ⊥
AreSpelled (w ∷ ws) (u ∷ us) = (data_word_of w ≡ data_word_of u) × AreSpelled ws us

-- two lines that write the same words to the same place of the same buffer, in any spelling of the words
pub record IsSameWrite (line other : List ℕ) : Type 0 where
  pub buffer : List ℕ
  pub offset : List ℕ
  pub words : List (List ℕ)
  pub spelled : List (List ℕ)
  pub line_is : words_of line ≡ codes "write" ∷ buffer ∷ offset ∷ words
  pub other_is : words_of other ≡ codes "write" ∷ buffer ∷ offset ∷ spelled
  pub same : AreSpelled words spelled
  pub plain : is_plain line ≡ is_plain other

-- lines that are one, or that write the same words
abbrev pub AreAlike : List (List ℕ) → List (List ℕ) → Type 0
AreAlike [] [] = Unit {0}
AreAlike [] (other ∷ others) = ⊥
AreAlike (line ∷ lines) [] = ⊥
AreAlike (line ∷ lines) (other ∷ others) = ((line ≡ other) ⊎ IsSameWrite line other) × AreAlike lines others

-- lines in any spelling of their data words write what they write; and what is read of the text of plain lines is read of
-- their text in any spelling, where that is not too long
pub record SpellingsPlayNoPart : Type 0 where
  pub lines : (lines others : List (List ℕ)) (v : Value) → AreAlike lines others → AreLinesOf lines v → AreLinesOf others v
  pub texts : (lines others : List (List ℕ)) (v : Value) → AreAlike lines others → AllByRecursion (λ line. is_plain line ≡ true) lines →
      value_of (text_of_lines lines) ≡ Ok v → length (text_of_lines others) ≤ 16777216 → value_of (text_of_lines others) ≡ Ok v
