-- What a text says: line by line, with the first bad line and its cause.
use Rattle.std.specs.Prelude.{ℕ, ◌≡◌, ◌+◌, ◌==◌, ◌&&◌, nat_le, nat_lt, Bool, List, [], ◌∷◌, length, Option, Some, None, Result, Ok, Err, if◌then◌else◌}
use Rattle.std.specs.List.{list_all}
use Rattle.trace_words.specs.Lines.{is_plain_byte, pieces_of, words_of}
use Rattle.line_forms.specs.declared.cause.Cause.{Cause}
use Rattle.line_forms.specs.declared.cause.Cause.TheVariants as cause
use Rattle.vk_types.specs.declared.plan.DevicePlan.{DevicePlan}
use Rattle.vk_types.specs.declared.steps.VkStep.{VkStep}
use Rattle.journal_text.specs.declared.fault.JournalFault.{JournalFault}
use Rattle.journal_text.specs.declared.fault.JournalFault.TheVariants as journal
use Rattle.journal_text.specs.declared.fault.LineFault.{LineFault}
use Rattle.journal_text.specs.declared.fault.LineFault.TheVariants.{Refused, Memory}
use Rattle.journal_text.specs.declared.reading.Reading.{Reading}
use Rattle.journal_text.specs.Reading.{opening, with_words}

-- the most bytes of a text, and of a line
abbrev pub most_bytes : ℕ
most_bytes = 268435456

abbrev pub most_in_line : ℕ
most_in_line = 16777216

-- a line of at most 16,777,216 bytes, each from 32 to 126
unfoldable pub is_plain : List ℕ → Bool
is_plain line = nat_le (length line) most_in_line && list_all is_plain_byte line

-- what was read with one more line, which a line feed ends; or why it is refused
unfoldable pub with_line : Reading → List ℕ → Result Reading Cause
with_line r line = if is_plain line then (if r.ended then Err cause.After else with_words r (words_of line)) else Err cause.Line

-- what was read, where nothing stands behind the last line feed and the line `end` came; or why not
unfoldable pub with_last : Reading → List ℕ → Result Reading Cause
with_last r piece = if length piece == 0 && r.ended then Ok r else (if is_plain piece then Err cause.Cut else Err cause.Line)

-- a line that holds a byte past the limit of a text is refused before anything else
unfoldable pub sized : ℕ → Result Reading Cause → Result Reading Cause
sized end found = if nat_lt most_bytes end then Err cause.Size else found

-- a cause, with the number of its line; and what follows where there is none
abbrev pub at_line : ℕ → Result Reading Cause → (Reading → Result Reading (ℕ × Cause)) → Result Reading (ℕ × Cause)
at_line n (Ok r) more = more r
at_line n (Err c) more = Err (n, c)

-- what is read of the pieces of a text from a line on, of that number, behind so many bytes
unfoldable pub pieces_from : ℕ → ℕ → Reading → List (List ℕ) → Result Reading (ℕ × Cause)
pieces_from n at r [] = Err (n, cause.Cut)
pieces_from n at r (piece ∷ []) = at_line n (sized (at + length piece) (with_last r piece)) (λ s. Ok s)
pieces_from n at r (piece ∷ next ∷ more) =
    at_line n (sized (at + length piece + 1) (with_line r piece)) (λ s. pieces_from (n + 1) (at + length piece + 1) s (next ∷ more))

-- what is read of a text; or the first bad line, counted from 1, and the first of its causes
unfoldable pub reading_of : List ℕ → Result Reading (ℕ × Cause)
reading_of text = pieces_from 1 0 opening (pieces_of text)

-- the objects and the steps that were read
abbrev pub journaled : Result Reading (ℕ × Cause) → Result (DevicePlan × List VkStep) (ℕ × Cause)
journaled (Ok r) = Ok (r.plan, r.steps)
journaled (Err p) = Err p

-- the journal that a text writes
unfoldable pub journal_of : List ℕ → Result (DevicePlan × List VkStep) (ℕ × Cause)
journal_of text = journaled (reading_of text)

-- what was read, where there is no cause against it
abbrev pub unless : Reading → Option Cause → Result Reading Cause
unless r None = Ok r
unless r (Some c) = Err c

-- the new value is what is to be read, where memory is not refused
abbrev pub Leaves : {A B : Type 0} → Result A LineFault → B → Result B Cause → Type 0
Leaves (Ok x) new read = read ≡ Ok new
Leaves (Err (Refused c)) new read = read ≡ Err c
Leaves (Err Memory) new read = Unit {0}

-- the answer is what is to be read, or the line and the cause, where memory is not refused
abbrev pub Answers : {A : Type 0} → Result A JournalFault → Result A (ℕ × Cause) → Type 0
Answers (Ok x) read = read ≡ Ok x
Answers (Err (journal.Refused n c)) read = read ≡ Err (n, c)
Answers (Err journal.Memory) read = Unit {0}

-- a fault of a line, with the line's number
abbrev pub fault_at : ℕ → LineFault → JournalFault
fault_at n (Refused c) = journal.Refused n c
fault_at n Memory = journal.Memory
