-- What the words of a line say, and what is wrong with them: the grammar in its own words.
use Rattle.std.specs.Prelude.{ℕ, ◌≡◌, ◌≢◌, ◌<◌, ◌≤◌, ◌^◌, ◌⊎◌, List, [], ◌∷◌, length, drop, map, decimal, bit_or, true, false, Option, Some, None, Ok, Err}
use Rattle.std.specs.List.{join_with_byte}
use Rattle.std.specs.Str.Parse.{digits_value}
use Rattle.trace_words.specs.Words.{is_number, is_data_word}
use Rattle.line_forms.specs.declared.cause.Cause.{Cause}
use Rattle.line_forms.specs.declared.cause.Cause.TheVariants as cause
use Rattle.line_forms.specs.declared.choice.Choice.{Choice as Chosen}
use Rattle.line_forms.specs.declared.form.Line.{Line}
use Rattle.line_forms.specs.declared.part.PartValue.{PartValue}
use Rattle.line_forms.specs.declared.part.PartValue.TheVariants as value
use Rattle.line_forms.specs.declared.part.Rest.{Rest}
use Rattle.line_forms.specs.declared.part.Rest.TheVariants.{Nothing, Names, Words}
use Rattle.line_forms.specs.Causes.{rank_of}
use Rattle.line_forms.specs.Choices.{choice_text, choices_of}
use Rattle.line_forms.specs.Parts.{Place, Word, Name, NewName, Number, DataWord, FlagWord, Set, Choice, AllOr, AllOrNumber, Row}
use Rattle.line_forms.specs.Reading.{Naming, all_text}
use Rattle.line_forms.specs.Sets.{rows_of}

-- decimal digits of a number below 2^64, without a leading zero
abbrev pub IsDecimal : ℕ → List ℕ → Type 0
IsDecimal i w = (i < 2 ^ 64) × (w ≡ decimal i)

-- 1 to 8 hexadecimal digits in lower case, and the number that they write
abbrev pub IsHexadecimal : ℕ → List ℕ → Type 0
IsHexadecimal i w = (is_data_word w ≡ true) × (digits_value 16 w ≡ i)

-- one of some
abbrev pub IsAmong : {A : Type 0} → A → List A → Type 0
IsAmong x [] = ⊥
IsAmong x (y ∷ ys) = (x ≡ y) ⊎ IsAmong x ys

-- the word of one of the choices
abbrev pub IsChoice : List Chosen → Chosen → List ℕ → Type 0
IsChoice cs c w = (w ≡ choice_text c) × IsAmong c cs

-- names of a table, none of them twice
abbrev pub AreNamesOf : List (List ℕ × ℕ) → List (List ℕ × ℕ) → Type 0
AreNamesOf rows [] = Unit {0}
AreNamesOf rows (r ∷ rs) = IsAmong r rows × (IsAmong r rs → ⊥) × AreNamesOf rows rs

-- the set of names
abbrev pub bits_of : List (List ℕ × ℕ) → ℕ
bits_of [] = 0
bits_of (r ∷ rs) = bit_or (bits_of rs) r.1

-- names of a table, one or more and each at most once, with bars between; the set has the bit of each
pub record IsSetOf (rows : List (List ℕ × ℕ)) (s : ℕ) (w : List ℕ) : Type 0 where
  pub names : List (List ℕ × ℕ)
  pub some : names ≢ []
  pub are : AreNamesOf rows names
  pub text : w ≡ join_with_byte 124 (map (λ r. r.0) names)
  pub bits : s ≡ bits_of names

-- `all`, or else a word that says one
abbrev pub IsAllOr : {A : Type 0} → (Option A → PartValue) → (A → List ℕ → Type 0) → PartValue → List ℕ → Type 0
IsAllOr {A} make One v w = ((w ≡ all_text) × (v ≡ make None)) ⊎ ((w ≢ all_text) × ((i : A) × One i w × (v ≡ make (Some i))))

-- a word says a value as a part
abbrev pub Says : Naming → Place → PartValue → List ℕ → Type 0
Says n (Word t) v w = (w ≡ t) × (v ≡ value.AsItStands)
Says n (Name k) v w = (i : ℕ) × (n.number k w ≡ Ok i) × (v ≡ value.Id i)
Says n NewName v w = (m : List ℕ) × (n.fresh w ≡ Ok m) × (v ≡ value.NewName m)
Says n Number v w = (i : ℕ) × IsDecimal i w × (v ≡ value.Number i)
Says n DataWord v w = (i : ℕ) × IsHexadecimal i w × (v ≡ value.Word i)
Says n FlagWord v w = (i : ℕ) × IsHexadecimal i w × (v ≡ value.Word i)
Says n (Set s) v w = (i : ℕ) × IsSetOf (rows_of s) i w × (v ≡ value.Set i)
Says n (Choice c) v w = (i : Chosen) × IsChoice (choices_of c) i w × (v ≡ value.Chosen i)
Says n (AllOr k) v w = IsAllOr value.AllOr (λ i u. n.number k u ≡ Ok i) v w
Says n AllOrNumber v w = IsAllOr value.AllOrNumber IsDecimal v w

-- words say values as parts, each word its part
abbrev pub SayAll : Naming → List Place → List PartValue → List (List ℕ) → Type 0
SayAll n [] [] ws = Unit {0}
SayAll n [] (v ∷ vs) ws = ⊥
SayAll n (p ∷ ps) vs [] = ⊥
SayAll n (p ∷ ps) [] (w ∷ ws) = ⊥
SayAll n (p ∷ ps) (v ∷ vs) (w ∷ ws) = Says n p v w × SayAll n ps vs ws

-- words say numbers, each word its own
abbrev pub SayEach : (ℕ → List ℕ → Type 0) → List ℕ → List (List ℕ) → Type 0
SayEach One [] [] = Unit {0}
SayEach One [] (w ∷ ws) = ⊥
SayEach One (x ∷ xs) [] = ⊥
SayEach One (x ∷ xs) (w ∷ ws) = One x w × SayEach One xs ws

-- the words behind the parts say numbers
abbrev pub SayRest : Naming → Rest → List ℕ → List (List ℕ) → Type 0
SayRest n Nothing xs ws = (ws ≡ []) × (xs ≡ [])
SayRest n (Names k) xs ws = SayEach (λ i w. n.number k w ≡ Ok i) xs ws
SayRest n Words xs ws = (1 ≤ length ws) × (length ws ≤ 256) × SayEach IsHexadecimal xs ws

-- the words of a line say what its parts mean and what stands behind them
pub record SaysLine (n : Naming) (row : Row) (line : Line) (ws : List (List ℕ)) : Type 0 where
  pub values : SayAll n row.parts line.values ws
  pub rest : SayRest n row.rest line.rest (drop (length row.parts) ws)

-- a word is no decimal number, or writes one of 2^64 or more
abbrev pub IsNoDecimal : List ℕ → Cause → Type 0
IsNoDecimal w c =
    ((c ≡ cause.Form) × (is_number w ≡ false)) ⊎ ((c ≡ cause.Number) × ((is_number w ≡ true) × (2 ^ 64 ≤ digits_value 10 w)))

abbrev pub IsNoHexadecimal : List ℕ → Cause → Type 0
IsNoHexadecimal w c = (c ≡ cause.Form) × (is_data_word w ≡ false)

-- what is wrong with a word as a part
abbrev pub IsWrong : Naming → Place → List ℕ → Cause → Type 0
IsWrong n (Word t) w c = (c ≡ cause.Form) × (w ≢ t)
IsWrong n (Name k) w c = n.number k w ≡ Err c
IsWrong n NewName w c = n.fresh w ≡ Err c
IsWrong n Number w c = IsNoDecimal w c
IsWrong n DataWord w c = IsNoHexadecimal w c
IsWrong n FlagWord w c = IsNoHexadecimal w c
IsWrong n (Set s) w c = (c ≡ cause.Form) × ((i : ℕ) → IsSetOf (rows_of s) i w → ⊥)
IsWrong n (Choice k) w c = (c ≡ cause.Form) × ((i : Chosen) → IsChoice (choices_of k) i w → ⊥)
IsWrong n (AllOr k) w c = (w ≢ all_text) × (n.number k w ≡ Err c)
IsWrong n AllOrNumber w c = (w ≢ all_text) × IsNoDecimal w c

-- what is wrong with some word
abbrev pub IsSomeWrong : Naming → List Place → List (List ℕ) → Cause → Type 0
IsSomeWrong n [] ws c = ⊥
IsSomeWrong n (p ∷ ps) [] c = c ≡ cause.Form
IsSomeWrong n (p ∷ ps) (w ∷ ws) c = IsWrong n p w c ⊎ IsSomeWrong n ps ws c

-- what is wrong with one of several words
abbrev pub IsEachWrong : (List ℕ → Cause → Type 0) → List (List ℕ) → Cause → Type 0
IsEachWrong Wrong [] c = ⊥
IsEachWrong Wrong (w ∷ ws) c = Wrong w c ⊎ IsEachWrong Wrong ws c

-- what is wrong with the words behind the parts
abbrev pub IsRestWrong : Naming → Rest → List (List ℕ) → Cause → Type 0
IsRestWrong n Nothing ws c = (c ≡ cause.Form) × (ws ≢ [])
IsRestWrong n (Names k) ws c = IsEachWrong (λ w d. n.number k w ≡ Err d) ws c
IsRestWrong n Words ws c =
    ((c ≡ cause.Form) × ((length ws ≡ 0) ⊎ (256 < length ws))) ⊎ ((1 ≤ length ws) × (length ws ≤ 256) × IsEachWrong IsNoHexadecimal ws c)

-- what is wrong with a line
abbrev pub IsLineWrong : Naming → Row → List (List ℕ) → Cause → Type 0
IsLineWrong n row ws c = IsSomeWrong n row.parts ws c ⊎ IsRestWrong n row.rest (drop (length row.parts) ws) c

-- the first in order of the causes that are there
pub record IsFirstCause (n : Naming) (row : Row) (ws : List (List ℕ)) (c : Cause) : Type 0 where
  pub there : IsLineWrong n row ws c
  pub first : (d : Cause) → IsLineWrong n row ws d → rank_of c ≤ rank_of d
