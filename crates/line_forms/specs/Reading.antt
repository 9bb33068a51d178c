-- What the words of a line mean.
use Rattle.std.specs.Prelude.{ℕ, ◌==◌, ◌&&◌, ◌^◌, nat_le, nat_lt, List, [], ◌∷◌, length, drop, codes, Option, Some, None, Result, Ok, Err, if◌then◌else◌}
use Rattle.std.specs.Str.{bytes_eq}
use Rattle.std.specs.Str.Parse.{digits_value}
use Rattle.trace_words.specs.Words.{is_number, data_word_of}
use Rattle.line_forms.specs.declared.cause.Cause.{Cause}
use Rattle.line_forms.specs.declared.cause.Cause.TheVariants as cause
use Rattle.line_forms.specs.declared.kind.Kind.{Kind}
use Rattle.line_forms.specs.declared.form.Line.{Line}
use Rattle.line_forms.specs.declared.part.PartValue.{PartValue}
use Rattle.line_forms.specs.declared.part.PartValue.TheVariants as value
use Rattle.line_forms.specs.declared.part.Rest.{Rest}
use Rattle.line_forms.specs.declared.part.Rest.TheVariants.{Nothing, Names, Words}
use Rattle.line_forms.specs.Causes.{wrapped, two_of}
use Rattle.line_forms.specs.Choices.{choices_of, chosen}
use Rattle.line_forms.specs.Parts.{Place, Word, Name, NewName, Number, DataWord, FlagWord, Set, Choice, AllOr, AllOrNumber, Row}
use Rattle.line_forms.specs.Sets.{rows_of, set_from}

-- what words name: the thing that a word names, and the name that a word declares
pub record Naming : Type 0 where
  pub number : Kind → List ℕ → Result ℕ Cause
  pub fresh : List ℕ → Result (List ℕ) Cause

-- what stands where it is there, and a word of no form else
abbrev pub or_form : {A : Type 0} → Option A → Result A Cause
or_form None = Err cause.Form
or_form (Some x) = Ok x

-- the word that means all things
abbrev pub all_text : List ℕ
all_text = codes "all"

-- the number that a word writes in decimal
unfoldable pub number_of : List ℕ → Result ℕ Cause
number_of w =
    if is_number w then (if nat_lt (digits_value 10 w) (2 ^ 64) then Ok (digits_value 10 w) else Err cause.Number) else Err cause.Form

-- the number that a data word or a flag word writes
unfoldable pub word_of : List ℕ → Result ℕ Cause
word_of w = or_form (data_word_of w)

-- a word that stands as it is
unfoldable pub stands_for : List ℕ → List ℕ → Result PartValue Cause
stands_for text w = if bytes_eq w text then Ok value.AsItStands else Err cause.Form

-- all, or the one that a word says
unfoldable pub all_or_of : {A : Type 0} → (Option A → PartValue) → (List ℕ → Result A Cause) → List ℕ → Result PartValue Cause
all_or_of make one w = if bytes_eq w all_text then Ok (make None) else wrapped (λ i. make (Some i)) (one w)

-- what a word means as a part
abbrev pub read_part : Naming → Place → List ℕ → Result PartValue Cause
read_part n (Word t) w = stands_for t w
read_part n (Name k) w = wrapped value.Id (n.number k w)
read_part n NewName w = wrapped value.NewName (n.fresh w)
read_part n Number w = wrapped value.Number (number_of w)
read_part n DataWord w = wrapped value.Word (word_of w)
read_part n FlagWord w = wrapped value.Word (word_of w)
read_part n (Set s) w = wrapped value.Set (set_from (rows_of s) w)
read_part n (Choice c) w = wrapped value.Chosen (or_form (chosen (choices_of c) w))
read_part n (AllOr k) w = all_or_of value.AllOr (n.number k) w
read_part n AllOrNumber w = all_or_of value.AllOrNumber number_of w

-- what stands at a part means, where a word stands there
abbrev pub read_at : Naming → Place → Option (List ℕ) → Result PartValue Cause
read_at n p None = Err cause.Form
read_at n p (Some w) = read_part n p w

-- what the first words mean as parts, or the earliest cause
unfoldable pub read_parts : Naming → List Place → List (List ℕ) → Result (List PartValue) Cause
read_parts n [] ws = Ok []
read_parts n (p ∷ ps) [] = wrapped (λ v. v.0 ∷ v.1) (two_of (Err cause.Form) (read_parts n ps []))
read_parts n (p ∷ ps) (w ∷ ws) = wrapped (λ v. v.0 ∷ v.1) (two_of (read_part n p w) (read_parts n ps ws))

-- what each of several words means, or the earliest cause among them
unfoldable pub each_of : {A : Type 0} → (List ℕ → Result A Cause) → List (List ℕ) → Result (List A) Cause
each_of f [] = Ok []
each_of f (w ∷ ws) = wrapped (λ v. v.0 ∷ v.1) (two_of (f w) (each_of f ws))

-- what the words up to the end mean
unfoldable pub read_rest : Naming → Rest → List (List ℕ) → Result (List ℕ) Cause
read_rest n Nothing ws = if length ws == 0 then Ok [] else Err cause.Form
read_rest n (Names k) ws = each_of (n.number k) ws
read_rest n Words ws = if nat_le 1 (length ws) && nat_le (length ws) 256 then each_of word_of ws else Err cause.Form

-- what words mean by a form
unfoldable pub read_row : Naming → Row → List (List ℕ) → Result Line Cause
read_row n row ws =
    wrapped (λ v. record { values = v.0; rest = v.1 })
    (two_of (read_parts n row.parts ws) (read_rest n row.rest (drop (length row.parts) ws)))
