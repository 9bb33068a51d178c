-- What single words of a journal's lines mean.
use Rattle.std.specs.Prelude.{ℕ, ◌==◌, ◌^◌, nat_lt, List, [], ◌∷◌, codes, Bool, true, false, Option, Some, None, Result, Ok, Err, if◌then◌else◌}
use Rattle.std.specs.Str.{bytes_eq}
use Rattle.line_forms.specs.declared.cause.Cause.{Cause}
use Rattle.line_forms.specs.declared.cause.Cause.TheVariants as cause
use Rattle.line_forms.specs.Reading.{number_of}
use Rattle.line_forms.specs.Sets.{set_from, set_text}

-- a number, where it is below 2^32
abbrev pub small_of : Result ℕ Cause → Result ℕ Cause
small_of (Ok n) = if nat_lt n (2 ^ 32) then Ok n else Err cause.Number
small_of (Err c) = Err c

-- the number below 2^32 that a word writes in decimal
unfoldable pub narrow_of : List ℕ → Result ℕ Cause
narrow_of w = small_of (number_of w)

-- a word that stands as it is
unfoldable pub literal_of : List ℕ → List ℕ → Result Bool Cause
literal_of text w = if bytes_eq w text then Ok true else Err cause.Form

-- the word of a set of no names
abbrev pub no_names : List ℕ
no_names = codes "-"

-- the set that a word writes: names with bars between, or `-`
unfoldable pub set_of : List (List ℕ × ℕ) → List ℕ → Result ℕ Cause
set_of rows w = if bytes_eq w no_names then Ok 0 else set_from rows w

-- the word of a set
unfoldable pub set_word : List (List ℕ × ℕ) → ℕ → List ℕ
set_word rows s = if s == 0 then no_names else set_text rows s false

-- a text cut at the first byte of a value: what stands before and behind it
abbrev pub onto_front : ℕ → Option (List ℕ × List ℕ) → Option (List ℕ × List ℕ)
onto_front b None = None
onto_front b (Some p) = Some (b ∷ p.0, p.1)

unfoldable pub cut_at : ℕ → List ℕ → Option (List ℕ × List ℕ)
cut_at byte [] = None
cut_at byte (b ∷ bs) = if b == byte then Some ([], bs) else onto_front b (cut_at byte bs)
