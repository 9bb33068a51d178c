-- Lines that may be written: each value is one that its part may have, and names a thing.
use Rattle.std.specs.Prelude.{ℕ, ◌&&◌, ◌^◌, not, nat_le, nat_lt, Bool, true, List, [], ◌∷◌, ◌++◌, length, Option, Some, None}
use Rattle.std.specs.List.{list_all}
use Rattle.std.specs.Str.{bytes_eq}
use Rattle.line_forms.specs.declared.form.Line.{Line}
use Rattle.line_forms.specs.declared.kind.Kind.{Kind}
use Rattle.line_forms.specs.declared.part.PartValue.{PartValue}
use Rattle.line_forms.specs.declared.part.Rest.{Rest}
use Rattle.line_forms.specs.declared.part.Rest.TheVariants.{Nothing, Names, Words}
use Rattle.line_forms.specs.Parts.{Place, Word, Name, NewName, Number, DataWord, FlagWord, Set, Choice, AllOr, AllOrNumber, Row}
use Rattle.line_forms.specs.Printing.{Known}
use Rattle.line_forms.specs.Reading.{all_text}
use Rattle.line_forms.specs.Values.{id_in, number_in, word_in, set_in, all_or_in, all_or_number_in}

-- all of some tests
abbrev pub all_of : List Bool → Bool
all_of [] = true
all_of (b ∷ []) = b
all_of (b ∷ c ∷ bs) = b && all_of (c ∷ bs)

-- the tests of one value, where there is one
abbrev pub of_some : {A : Type 0} → (A → Bool) → Option A → List Bool
of_some test None = []
of_some test (Some i) = test i ∷ []

-- a value is one of its part: a number has 64 bits, a data word and a flag word 32, and a set a name and known names alone
abbrev pub sound_tests : Place → PartValue → List Bool
sound_tests (Word t) v = []
sound_tests (Name k) v = []
sound_tests NewName v = []
sound_tests Number v = nat_lt (number_in v) (2 ^ 64) ∷ []
sound_tests DataWord v = nat_lt (word_in v) (2 ^ 32) ∷ []
sound_tests FlagWord v = nat_lt (word_in v) (2 ^ 32) ∷ []
sound_tests (Set s) v = nat_lt 0 (set_in v) ∷ nat_lt (set_in v) 128 ∷ []
sound_tests (Choice c) v = []
sound_tests (AllOr k) v = []
sound_tests AllOrNumber v = of_some (λ i. nat_lt i (2 ^ 64)) (all_or_number_in v)

-- 1 to 256 data words
abbrev pub sound_rest : Rest → List ℕ → List Bool
sound_rest Nothing xs = []
sound_rest (Names k) xs = []
sound_rest Words xs = nat_le 1 (length xs) ∷ nat_le (length xs) 256 ∷ list_all (λ n. nat_lt n (2 ^ 32)) xs ∷ []

-- a value names a thing, by how many things of each kind there are; where the word `all` may stand, its name is another
abbrev pub named_tests : (Kind → ℕ) → Known → Place → PartValue → List Bool
named_tests counts known (Word t) v = []
named_tests counts known (Name k) v = nat_lt (id_in v) (counts k) ∷ []
named_tests counts known NewName v = []
named_tests counts known Number v = []
named_tests counts known DataWord v = []
named_tests counts known FlagWord v = []
named_tests counts known (Set s) v = []
named_tests counts known (Choice c) v = []
named_tests counts known (AllOr k) v = of_some (λ i. nat_lt i (counts k) && not (bytes_eq (known k i) all_text)) (all_or_in v)
named_tests counts known AllOrNumber v = []

abbrev pub named_rest : (Kind → ℕ) → Rest → List ℕ → List Bool
named_rest counts Nothing xs = []
named_rest counts (Names k) xs = list_all (λ i. nat_lt i (counts k)) xs ∷ []
named_rest counts Words xs = []

-- the tests of all values, and those behind them
abbrev pub all_tests : (Place → PartValue → List Bool) → List Place → List PartValue → List Bool → List Bool
all_tests test [] vs more = more
all_tests test (p ∷ ps) [] more = more
all_tests test (p ∷ ps) (v ∷ vs) more = test p v ++ all_tests test ps vs more

-- a line's values are ones of their parts
abbrev pub is_sound_line : Row → Line → Bool
is_sound_line row line = all_of (all_tests sound_tests row.parts line.values (sound_rest row.rest line.rest))

-- a line's values name things
abbrev pub is_named_line : (Kind → ℕ) → Known → Row → Line → Bool
is_named_line counts known row line = all_of (all_tests (named_tests counts known) row.parts line.values (named_rest counts row.rest line.rest))
