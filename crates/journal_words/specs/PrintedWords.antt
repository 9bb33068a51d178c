-- The words of a journal's lines, printed.
use Rattle.std.specs.Prelude.{ℕ, List, ◌∷◌, ◌++◌, codes, decimal, Option, Some, None}
use Rattle.line_forms.specs.Lines.{hex_word}
use Rattle.line_forms.specs.Reading.{all_text}
use Rattle.vk_types.specs.declared.registers.Count.{Count}
use Rattle.vk_types.specs.declared.registers.Count.TheVariants as count
use Rattle.vk_types.specs.declared.registers.Register.{Register}
use Rattle.vk_types.specs.declared.registers.Register.TheVariants as register
use Rattle.journal_words.specs.Words.{no_names}

-- `M:N`
abbrev pub pair_word : ℕ × ℕ → List ℕ
pair_word p = decimal p.0 ++ 58 ∷ decimal p.1

-- a register and a count
abbrev pub register_word : Register → List ℕ
register_word register.Unbound = no_names
register_word (register.Constant word) = codes "c:" ++ hex_word word
register_word (register.Root buffer first) = codes "b:" ++ pair_word (buffer, first)
register_word (register.Fixed view) = codes "v:" ++ decimal view
register_word (register.Slot heap slot) = codes "s:" ++ pair_word (heap, slot)

abbrev pub count_word : Count → List ℕ
count_word (count.Number n) = decimal n
count_word (count.Word buffer word most) = codes "b:" ++ (decimal buffer ++ 58 ∷ pair_word (word, most))

-- a subresource, or all
abbrev pub sub_word : Option ℕ → List ℕ
sub_word None = all_text
sub_word (Some sub) = decimal sub
