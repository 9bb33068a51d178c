-- The words of a program that runs a trace: what they say, or which is the first bad or missing one.
use Rattle.std.specs.Prelude.{ℕ, ◌+◌, ◌^◌, ◌&&◌, not, nat_lt, List, [], ◌∷◌, Option, Some, None, Result, Ok, Err, true, false, if◌then◌else◌, option_map, codes}
use Rattle.std.specs.Str.{bytes_eq}
use Rattle.std.specs.Str.Parse.{digits_value}
use Rattle.trace_words.specs.Words.{is_number}
use Rattle.trace_runner.specs.declared.words.Words.{Words}
use Rattle.trace_runner.specs.declared.words.Said.{Said}
use Rattle.trace_runner.specs.declared.words.Choices.TheVariants.{Unasked, Awaited, Given}

-- the number that a word writes: decimal, below 2^64, without a sign and without a leading zero
unfoldable pub number_in : List ℕ → Option ℕ
number_in word = if is_number word && nat_lt (digits_value 10 word) (2 ^ 64) then Some (digits_value 10 word) else None

-- what is said with a word that is `--history` and comes for the first time
unfoldable pub with_history : Said → List ℕ → Option Said
with_history said word = if bytes_eq word (codes "--history") && not said.shown then Some (record said { shown = true }) else None

-- what is said with a word where `--choices` has not come: that word is `--choices`, or it is `--history`
unfoldable pub with_choices : Said → List ℕ → Option Said
with_choices said word = if bytes_eq word (codes "--choices") then Some (record said { choices = Awaited }) else with_history said word

-- what is said with one more word, where that is good: behind `--choices` a number, elsewhere a word that has not come
unfoldable pub said_with : Said → List ℕ → Option Said
said_with said word =
    elim said.choices [ Unasked ↦ with_choices said word | Awaited ↦ option_map (λ n. record said { choices = Given n }) (number_in word) | Given n ↦ with_history said word ]

-- what all words say, or the place behind them where the number of `--choices` is missing
unfoldable pub said_in_all : Said → ℕ → Result Words ℕ
said_in_all said place =
    elim said.choices [ Unasked ↦ Ok (record { choices = None; shown = said.shown }) | Awaited ↦ Err place | Given n ↦ Ok (record { choices = Some n; shown = said.shown }) ]

-- what more words say beside what was said, or the place of the first bad or missing one; the first of them has a place
unfoldable pub said_from : Said → ℕ → List (List ℕ) → Result Words ℕ
said_from said place [] = said_in_all said place
said_from said place (word ∷ words) = elim (said_with said word) [ None ↦ Err place | Some more ↦ said_from more (place + 1) words ]

-- what the words of a program say, or the place of the first bad or missing one, counted from 1
abbrev pub said_by : List (List ℕ) → Result Words ℕ
said_by words = said_from (record { choices = Unasked; shown = false }) 1 words

-- the number that words ask for, and 0 where they ask for none
abbrev pub number_said : Words → ℕ
number_said words = elim words.choices [ None ↦ 0 | Some n ↦ n ]
