-- What a text writes: line by line, with the first bad line and its cause.
use Rattle.std.specs.Prelude.{ℕ, ◌+◌, ◌==◌, ◌&&◌, not, nat_lt, Bool, true, List, [], ◌∷◌, length, Option, Some, None, Result, Ok, Err, if◌then◌else◌}
use Rattle.trace_words.specs.Lines.{pieces_of, words_of, is_plain}
use Rattle.line_forms.specs.declared.cause.Cause.{Cause}
use Rattle.line_forms.specs.declared.cause.Cause.TheVariants as cause
use Rattle.trace_text.specs.declared.reading.Reading.{Reading}
use Rattle.trace_text.specs.Reading.{opening, with_words}

-- an empty line and a comment are skipped
abbrev pub is_skipped : List ℕ → Bool
is_skipped [] = true
is_skipped (b ∷ bs) = b == 35

-- what was read with one more line, which a line feed ends; or why it is refused
unfoldable pub with_line : Reading → List ℕ → Result Reading Cause
with_line r line =
    if not (is_plain line) then Err cause.Line
    else (if r.ended then Err cause.After else (if is_skipped line then Ok r else with_words r (words_of line)))

-- what was read, where nothing stands behind the last line feed and the line `end` came; or why not
unfoldable pub with_last : Reading → List ℕ → Result Reading Cause
with_last r piece =
    if length piece == 0 && r.ended then Ok r else (if is_plain piece then Err cause.Cut else Err cause.Line)

-- a line that holds a byte past the limit of a text is refused before anything else
unfoldable pub sized : ℕ → Result Reading Cause → Result Reading Cause
sized end found = if nat_lt 16777216 end then Err cause.Size else found

-- a cause, with the number of its line; and what follows where there is none
abbrev pub at_line : ℕ → Result Reading Cause → (Reading → Result Reading (ℕ × Cause)) → Result Reading (ℕ × Cause)
at_line n (Ok r) more = more r
at_line n (Err c) more = Err (n, c)

-- what is read of the pieces of a text from a line on, of that number, behind so many bytes
unfoldable pub pieces_from : ℕ → ℕ → Reading → List (List ℕ) → Result Reading (ℕ × Cause)
pieces_from n at r [] = Err (n, cause.Cut)
pieces_from n at r (piece ∷ []) = at_line n (sized (at + length piece) (with_last r piece)) (λ s. Ok s)
pieces_from n at r (piece ∷ next ∷ more) =
    at_line n (sized (at + length piece + 1) (with_line r piece)) (λ s. pieces_from (n + 1) (at + length piece + 1) s (next ∷ more))

-- what is read of a text; or the first bad line, counted from 1, and the first of its causes
unfoldable pub reading_of : List ℕ → Result Reading (ℕ × Cause)
reading_of text = pieces_from 1 0 opening (pieces_of text)

-- what was read, where there is no cause against it
abbrev pub unless : Reading → Option Cause → Result Reading Cause
unless r None = Ok r
unless r (Some c) = Err c
