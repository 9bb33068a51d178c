-- The words of a line, read one after the other, with the earliest cause against it.
use Rattle.std.specs.Prelude.{ℕ, ◌+◌, ◌==◌, List, [], ◌∷◌, length, take, drop, map, Bool, false, Option, Some, None, Result, Ok, Err, if◌then◌else◌}
use Rattle.std.specs.Str.{bytes_eq}
use Rattle.dx_base.specs.declared.kinds.Class.{Class}
use Rattle.dx_base.specs.declared.kinds.Class.TheVariants as class
use Rattle.dx_base.specs.declared.kinds.Home.{Home}
use Rattle.dx_base.specs.declared.kinds.Home.TheVariants as home
use Rattle.dx_base.specs.declared.kinds.Routine.{Routine}
use Rattle.dx_base.specs.declared.kinds.Routine.TheVariants as routine
use Rattle.line_forms.specs.declared.cause.Cause.{Cause}
use Rattle.line_forms.specs.declared.cause.Cause.TheVariants as cause
use Rattle.line_forms.specs.Causes.{earlier_of, wrapped}
use Rattle.line_forms.specs.Reading.{all_text, each_of, number_of, or_form, word_of}
use Rattle.trace_words.specs.Rows.{row_of}
use Rattle.vk_types.specs.declared.layouts.VkLayout.{VkLayout}
use Rattle.vk_types.specs.declared.layouts.VkLayout.TheVariants as layout
use Rattle.vk_types.specs.declared.registers.Count.{Count}
use Rattle.vk_types.specs.declared.registers.Count.TheVariants as count
use Rattle.vk_types.specs.declared.registers.Register.{Register}
use Rattle.vk_types.specs.declared.registers.Register.TheVariants as register
use Rattle.journal_words.specs.Fields.{count_of, pair_of, register_of}
use Rattle.journal_words.specs.Tables.{access_rows, classes, homes, layouts, routine_rows, stage_rows, viewed}
use Rattle.journal_words.specs.Words.{literal_of, narrow_of, set_of}
use Rattle.journal_words.specs.declared.line_words.LineWords.{LineWords}

-- the words that are left, and the earliest cause so far
pub record Left : Type 0 where
  pub words : List (List ℕ)
  pub cause : Option Cause

-- what the code has of them
abbrev pub left_in : LineWords → Left
left_in l = record { words = map (λ w. w.now) l.words.now; cause = l.cause }

-- one more cause
abbrev pub with_cause : Cause → Option Cause → Option Cause
with_cause c None = Some c
with_cause c (Some d) = Some (earlier_of d c)

-- what is found, or else a default and a cause
abbrev pub kept : {A : Type 0} → Result A Cause → A → Left → A × Left
kept (Ok x) otherwise l = (x, l)
kept (Err c) otherwise l = (otherwise, record l { cause = with_cause c l.cause })

-- what the first word means
abbrev pub first_of : {A : Type 0} → (List ℕ → Result A Cause) → List (List ℕ) → Result A Cause
first_of read [] = Err cause.Form
first_of read (w ∷ ws) = read w

-- the first word is read
unfoldable pub next : {A : Type 0} → (List ℕ → Result A Cause) → A → Left → A × Left
next read otherwise l = kept (first_of read l.words) otherwise (record l { words = drop 1 l.words })

-- words of each kind
abbrev pub number_next : Left → ℕ × Left
number_next l = next narrow_of 0 l

abbrev pub wide_next : Left → ℕ × Left
wide_next l = next number_of 0 l

abbrev pub data_next : Left → ℕ × Left
data_next l = next word_of 0 l

abbrev pub stages_next : Left → ℕ × Left
stages_next l = next (set_of stage_rows) 0 l

abbrev pub accesses_next : Left → ℕ × Left
accesses_next l = next (set_of access_rows) 0 l

abbrev pub layout_next : Left → VkLayout × Left
layout_next l = next (λ w. or_form (row_of layouts w)) layout.Undefined l

abbrev pub home_next : Left → Home × Left
home_next l = next (λ w. or_form (row_of homes w)) home.Upload l

abbrev pub class_next : Left → Class × Left
class_next l = next (λ w. or_form (row_of classes w)) class.Cbv l

abbrev pub viewed_next : Left → Bool × Left
viewed_next l = next (λ w. or_form (row_of viewed w)) false l

abbrev pub routine_next : Left → Routine × Left
routine_next l = next (λ w. or_form (row_of routine_rows w)) routine.Fill l

abbrev pub register_next : Left → Register × Left
register_next l = next register_of register.Unbound l

abbrev pub count_next : Left → Count × Left
count_next l = next count_of (count.Number 0) l

-- `all`, or a number
unfoldable pub all_or_number_of : List ℕ → Result (Option ℕ) Cause
all_or_number_of w = if bytes_eq w all_text then Ok None else wrapped (λ n. Some n) (narrow_of w)

abbrev pub all_or_next : Left → Option ℕ × Left
all_or_next l = next all_or_number_of None l

-- a word that stands as it is
abbrev pub literal_next : List ℕ → Left → Left
literal_next text l = (next (literal_of text) false l).1

-- all words that are left
abbrev pub all_next : {A : Type 0} → (List ℕ → Result A Cause) → Left → List A × Left
all_next read l = kept (each_of read l.words) [] (record l { words = [] })

-- how many words stand before the first that is a text
unfoldable pub place_of_word : List ℕ → List (List ℕ) → ℕ
place_of_word text [] = 0
place_of_word text (w ∷ ws) = if bytes_eq w text then 0 else 1 + place_of_word text ws

-- the pairs before the first word that is a text
unfoldable pub pairs_before : List ℕ → Left → List (ℕ × ℕ) × Left
pairs_before text l =
    kept (each_of pair_of (take (place_of_word text l.words) l.words)) [] (record l { words = drop (place_of_word text l.words) l.words })

-- what a line says whose words were read, where none is left and there is no cause against it
abbrev pub unless_caused : {A : Type 0} → A → Option Cause → Result A Cause
unless_caused x None = Ok x
unless_caused x (Some c) = Err c

unfoldable pub finished : {A : Type 0} → A → Left → Result A Cause
finished x l = if length l.words == 0 then unless_caused x l.cause else Err cause.Form
