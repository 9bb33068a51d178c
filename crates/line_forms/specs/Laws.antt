-- Laws of forms.
use Rattle.std.specs.Prelude.{ℕ, ◌≡◌, ◌+◌, ◌&&◌, ◌||◌, not, Bool, true, false, List, [], ◌∷◌, slice_get, Some, Ok, Err}
use Rattle.std.specs.List.{list_all}
use Rattle.std.specs.Str.{bytes_eq}
use Rattle.line_forms.specs.declared.cause.Cause.{Cause}
use Rattle.line_forms.specs.declared.form.Line.{Line}
use Rattle.line_forms.specs.declared.kind.Kind.{Kind}
use Rattle.line_forms.specs.declared.part.PartValue.{PartValue}
use Rattle.line_forms.specs.declared.part.PartValue.TheVariants as value
use Rattle.line_forms.specs.declared.part.Rest.{Rest}
use Rattle.line_forms.specs.declared.part.Rest.TheVariants.{Nothing, Names, Words}
use Rattle.line_forms.specs.Choices.{as_choice}
use Rattle.line_forms.specs.Finding.{form_for}
use Rattle.line_forms.specs.Parts.{Place, Word, Name, NewName, Number, DataWord, FlagWord, Set, Choice, AllOr, AllOrNumber, Row}
use Rattle.line_forms.specs.Printing.{Known, part_text, rest_texts, line_words}
use Rattle.line_forms.specs.Reading.{Naming, read_part, read_rest, read_row}
use Rattle.line_forms.specs.Says.{SaysLine, IsFirstCause}
use Rattle.line_forms.specs.Values.{id_in, name_in, number_in, word_in, set_in, choice_in, all_or_in, all_or_number_in, value_at}

-- the value of a part's own kind that is made of any value
abbrev pub shaped : Place → PartValue → PartValue
shaped (Word t) v = value.AsItStands
shaped (Name k) v = value.Id (id_in v)
shaped NewName v = value.NewName (name_in v)
shaped Number v = value.Number (number_in v)
shaped DataWord v = value.Word (word_in v)
shaped FlagWord v = value.Word (word_in v)
shaped (Set s) v = value.Set (set_in v)
shaped (Choice c) v = value.Chosen (as_choice c (choice_in v))
shaped (AllOr k) v = value.AllOr (all_or_in v)
shaped AllOrNumber v = value.AllOrNumber (all_or_number_in v)

-- values from a place on, each of its part's own kind
abbrev pub shaped_from : ℕ → List Place → List PartValue → List PartValue
shaped_from i [] vs = []
shaped_from i (p ∷ ps) vs = shaped p (value_at vs i) ∷ shaped_from (i + 1) ps vs

abbrev pub shaped_rest : Rest → List ℕ → List ℕ
shaped_rest Nothing xs = []
shaped_rest (Names k) xs = xs
shaped_rest Words xs = xs

-- a line whose values are of its parts' own kinds
abbrev pub shaped_line : Row → Line → Line
shaped_line row line = record { values = shaped_from 0 row.parts line.values; rest = shaped_rest row.rest line.rest }

-- what is read is what the words say, and a cause is the first in order of those that are there
pub record IsGrammar : Type 0 where
  pub says : (n : Naming) (row : Row) (line : Line) (ws : List (List ℕ)) → read_row n row ws ≡ Ok line → SaysLine n row line ws
  pub said : (n : Naming) (row : Row) (line : Line) (ws : List (List ℕ)) → SaysLine n row line ws → read_row n row ws ≡ Ok line
  pub first : (n : Naming) (row : Row) (ws : List (List ℕ)) (c : Cause) → read_row n row ws ≡ Err c → IsFirstCause n row ws c
  pub told : (n : Naming) (row : Row) (ws : List (List ℕ)) (c : Cause) → IsFirstCause n row ws c → read_row n row ws ≡ Err c

-- a value is read of its own word
pub record IsGood (n : Naming) (known : Known) (p : Place) (v : PartValue) : Type 0 where
  pub kind : shaped p v ≡ v
  pub reads : read_part n p (part_text known p v) ≡ Ok v

-- a fact of each part and its value
abbrev pub AllParts : (Place → PartValue → Type 0) → List Place → List PartValue → Type 0
AllParts P [] [] = Unit {0}
AllParts P [] (v ∷ vs) = ⊥
AllParts P (p ∷ ps) [] = ⊥
AllParts P (p ∷ ps) (v ∷ vs) = P p v × AllParts P ps vs

abbrev pub AllGood : Naming → Known → List Place → List PartValue → Type 0
AllGood n known ps vs = AllParts (IsGood n known) ps vs

-- a line all of whose values are read of their own words
pub record IsGoodLine (n : Naming) (known : Known) (row : Row) (line : Line) : Type 0 where
  pub values : AllGood n known row.parts line.values
  pub rest : read_rest n row.rest (rest_texts known row.rest line.rest) ≡ Ok line.rest

-- the name of a thing is the word that names it, and a name that is declared is its own word
pub record AreNamed (n : Naming) (known : Known) : Type 0 where
  pub things : (k : Kind) (w : List ℕ) (i : ℕ) → n.number k w ≡ Ok i → known k i ≡ w
  pub new : (w m : List ℕ) → n.fresh w ≡ Ok m → m ≡ w

-- what is read prints to words that are read as the same
pub record ReadsAgain : Type 0 where
  pub good : (n : Naming) (known : Known) → AreNamed n known → (row : Row) (ws : List (List ℕ)) (line : Line) → read_row n row ws ≡ Ok line → IsGoodLine n known row line
  pub shaped : (n : Naming) (row : Row) (ws : List (List ℕ)) (line : Line) → read_row n row ws ≡ Ok line → shaped_line row line ≡ line

-- two parts are other words
abbrev pub is_other : List ℕ → Place → Bool
is_other a (Word b) = not (bytes_eq a b)
is_other a (Name k) = false
is_other a NewName = false
is_other a Number = false
is_other a DataWord = false
is_other a FlagWord = false
is_other a (Set s) = false
is_other a (Choice c) = false
is_other a (AllOr k) = false
is_other a AllOrNumber = false

abbrev pub differ : Place → Place → Bool
differ (Word a) q = is_other a q
differ (Name k) q = false
differ NewName q = false
differ Number q = false
differ DataWord q = false
differ FlagWord q = false
differ (Set s) q = false
differ (Choice c) q = false
differ (AllOr k) q = false
differ AllOrNumber q = false

abbrev pub is_nothing : Rest → Bool
is_nothing Nothing = true
is_nothing (Names k) = false
is_nothing Words = false

-- no line of the first parts has the second
unfoldable pub apart : List Place → Rest → List Place → Rest → Bool
apart [] r [] s = false
apart [] r (q ∷ qs) s = is_nothing r
apart (p ∷ ps) r [] s = is_nothing s
apart (p ∷ ps) r (q ∷ qs) s = differ p q || apart ps r qs s

abbrev pub are_apart : Row → Row → Bool
are_apart a b = apart a.parts a.rest b.parts b.rest

-- no line of a form is of one that is tried before
unfoldable pub all_apart : {F : Type 0} → (F → Row) → List F → Bool
all_apart row [] = true
all_apart row (f ∷ fs) = list_all (λ g. are_apart (row g) (row f)) fs && all_apart row fs

-- what is printed of a good line is read as the line, also where its form is looked for among others that are apart
pub record PrintsBack : Type 0 where
  pub reads : (n : Naming) (known : Known) (row : Row) (line : Line) → IsGoodLine n known row line → read_row n row (line_words known row line) ≡ Ok line
  pub finds : (n : Naming) (known : Known) (rows : List Row) (k : ℕ) (row : Row) (line : Line) → all_apart (λ r. r) rows ≡ true →
      slice_get rows k ≡ Some row → IsGoodLine n known row line → form_for (λ r. r) rows (line_words known row line) ≡ Some row
