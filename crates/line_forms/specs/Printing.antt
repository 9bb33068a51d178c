-- The words of a line.
use Rattle.std.specs.Prelude.{ℕ, List, [], ◌∷◌, ◌++◌, map, decimal, false, Option, Some, None}
use Rattle.line_forms.specs.declared.form.Line.{Line}
use Rattle.line_forms.specs.declared.kind.Kind.{Kind}
use Rattle.line_forms.specs.declared.part.PartValue.{PartValue}
use Rattle.line_forms.specs.declared.part.Rest.{Rest}
use Rattle.line_forms.specs.declared.part.Rest.TheVariants.{Nothing, Names, Words}
use Rattle.line_forms.specs.Choices.{choice_text}
use Rattle.line_forms.specs.Lines.{hex_word, flag_word, rest_of_line}
use Rattle.line_forms.specs.Parts.{Place, Word, Name, NewName, Number, DataWord, FlagWord, Set, Choice, AllOr, AllOrNumber, Row}
use Rattle.line_forms.specs.Reading.{all_text}
use Rattle.line_forms.specs.Sets.{rows_of, set_text}
use Rattle.line_forms.specs.Values.{id_in, name_in, number_in, word_in, set_in, choice_in, all_or_in, all_or_number_in}

-- the names of things: the name of the thing of a kind and a number
abbrev pub Known : Type 0
Known = Kind → ℕ → List ℕ

-- the word of all things, or of one
abbrev pub all_or_text : (ℕ → List ℕ) → Option ℕ → List ℕ
all_or_text one None = all_text
all_or_text one (Some i) = one i

-- the word of what a part means
abbrev pub part_text : Known → Place → PartValue → List ℕ
part_text known (Word t) v = t
part_text known (Name k) v = known k (id_in v)
part_text known NewName v = name_in v
part_text known Number v = decimal (number_in v)
part_text known DataWord v = hex_word (word_in v)
part_text known FlagWord v = flag_word (word_in v)
part_text known (Set s) v = set_text (rows_of s) (set_in v) false
part_text known (Choice c) v = choice_text (choice_in v)
part_text known (AllOr k) v = all_or_text (known k) (all_or_in v)
part_text known AllOrNumber v = all_or_text decimal (all_or_number_in v)

-- the words of what parts mean
unfoldable pub part_texts : Known → List Place → List PartValue → List (List ℕ)
part_texts known [] vs = []
part_texts known (p ∷ ps) [] = []
part_texts known (p ∷ ps) (v ∷ vs) = part_text known p v ∷ part_texts known ps vs

-- the words behind the parts
unfoldable pub rest_texts : Known → Rest → List ℕ → List (List ℕ)
rest_texts known Nothing vs = []
rest_texts known (Names k) vs = map (known k) vs
rest_texts known Words vs = map hex_word vs

-- the words of a line
unfoldable pub line_words : Known → Row → Line → List (List ℕ)
line_words known row line = part_texts known row.parts line.values ++ rest_texts known row.rest line.rest

-- words, each behind a space
unfoldable pub spaced : List (List ℕ) → List ℕ
spaced [] = []
spaced (w ∷ ws) = 32 ∷ (w ++ spaced ws)

-- words with single spaces between
unfoldable pub joined : List (List ℕ) → List ℕ
joined [] = []
joined (w ∷ ws) = w ++ spaced ws

-- the text of a line: its words with single spaces between, then a line feed
unfoldable pub text_of : Known → Row → Line → List ℕ
text_of known row line = joined (part_texts known row.parts line.values) ++ rest_of_line (rest_texts known row.rest line.rest)
