-- Words of several fields with colons between: pairs, registers and counts.
use Rattle.std.specs.Prelude.{ℕ, List, codes, Option, Some, None, Result, Ok, Err, if◌then◌else◌}
use Rattle.std.specs.Str.{bytes_eq}
use Rattle.line_forms.specs.declared.cause.Cause.{Cause}
use Rattle.line_forms.specs.declared.cause.Cause.TheVariants as cause
use Rattle.line_forms.specs.Causes.{wrapped, two_of}
use Rattle.line_forms.specs.Reading.{number_of, word_of}
use Rattle.vk_types.specs.declared.registers.Count.{Count}
use Rattle.vk_types.specs.declared.registers.Count.TheVariants as count
use Rattle.vk_types.specs.declared.registers.Register.{Register}
use Rattle.vk_types.specs.declared.registers.Register.TheVariants as register
use Rattle.journal_words.specs.Words.{cut_at, narrow_of, no_names}

-- a word of two fields, by what each of them writes
abbrev pub both_fields : {A B : Type 0} → (List ℕ → Result A Cause) → (List ℕ → Result B Cause) → Option (List ℕ × List ℕ) → Result (A × B) Cause
both_fields one other None = Err cause.Form
both_fields one other (Some p) = two_of (one p.0) (other p.1)

-- `T:V`: a timeline and a value
unfoldable pub pair_of : List ℕ → Result (ℕ × ℕ) Cause
pair_of w = both_fields narrow_of number_of (cut_at 58 w)

-- `M:N`: two numbers below 2^32
unfoldable pub place_of : List ℕ → Result (ℕ × ℕ) Cause
place_of w = both_fields narrow_of narrow_of (cut_at 58 w)

-- `K:M:N`: three
unfoldable pub triple_of : List ℕ → Result (ℕ × (ℕ × ℕ)) Cause
triple_of w = both_fields narrow_of place_of (cut_at 58 w)

-- the register of a place
abbrev pub root_at : ℕ × ℕ → Register
root_at p = register.Root p.0 p.1

abbrev pub slot_at : ℕ × ℕ → Register
slot_at p = register.Slot p.0 p.1

-- a register: `c:WORD`, `b:B:FIRST`, `v:V` or `s:H:S`
unfoldable pub keyed_register : List ℕ → List ℕ → Result Register Cause
keyed_register key rest =
    if bytes_eq key (codes "c") then wrapped register.Constant (word_of rest)
    else (if bytes_eq key (codes "b") then wrapped root_at (place_of rest)
    else (if bytes_eq key (codes "v") then wrapped register.Fixed (narrow_of rest)
    else (if bytes_eq key (codes "s") then wrapped slot_at (place_of rest) else Err cause.Form)))

-- one without a colon: `-`
unfoldable pub lone_register : List ℕ → Result Register Cause
lone_register w = if bytes_eq w no_names then Ok register.Unbound else Err cause.Form

abbrev pub register_by : List ℕ → Option (List ℕ × List ℕ) → Result Register Cause
register_by w None = lone_register w
register_by w (Some p) = keyed_register p.0 p.1

unfoldable pub register_of : List ℕ → Result Register Cause
register_of w = register_by w (cut_at 58 w)

-- the count that a word of a buffer says
abbrev pub word_count : ℕ × (ℕ × ℕ) → Count
word_count p = count.Word p.0 p.1.0 p.1.1

-- a count: a number, or `b:B:WORD:MOST`
unfoldable pub keyed_count : List ℕ → List ℕ → Result Count Cause
keyed_count key rest = if bytes_eq key (codes "b") then wrapped word_count (triple_of rest) else Err cause.Form

abbrev pub count_by : List ℕ → Option (List ℕ × List ℕ) → Result Count Cause
count_by w None = wrapped count.Number (narrow_of w)
count_by w (Some p) = keyed_count p.0 p.1

unfoldable pub count_of : List ℕ → Result Count Cause
count_of w = count_by w (cut_at 58 w)
