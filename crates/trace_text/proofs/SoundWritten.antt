-- The values that lines write are the sound ones whose lines are short, and each is read of its own text.
use Rattle.trace_text.proofs.Vocabulary.{ℕ, ◌≡◌, ◌≤◌, ◌∙◌, true, List, [], ◌∷◌, ◌++◌, length, Result, Ok, ap, sym, subst, lit≤, All, AllByRecursion, ∥∥₁_elim, props, All-cons, All-head, All-tail, All-from_recursion, pieces_of, Cause, Trace, text_of_lines, items_of, trace_text, known_names, opening, seen, IsSound, Value, value_of, AreLinesOf, IsWritten}
use Rattle.std.specs.Prelude.{◌↔◌}
use Rattle.trace_text.specs.Laws.{HasShortLines}
use Rattle.trace_text.proofs.Grammar.{written_reads, pieces_back}
use Rattle.trace_text.proofs.PrintedLines.{printed_lines, text_is, IsShort, runs_plain, runs_read, runs_short, items_short}
use Rattle.trace_text.proofs.SoundLines.{written_is_sound, written_calls}
use Rattle.trace_text.proofs.SoundReads.{sound_runs}

-- the lines of a value
abbrev lines_of : Value → List (List ℕ)
lines_of v = printed_lines (known_names v.names v.declared) (items_of v)

-- its text is their text
text_of_value : (v : Value) → trace_text v ≡ text_of_lines (lines_of v)
unfolding trace_text
text_of_value v = text_is (known_names v.names v.declared) (items_of v)

-- and is cut into them
pieces_are : (v : Value) → IsSound v → pieces_of (trace_text v) ≡ lines_of v ++ [] ∷ []
pieces_are v sound =
    let all = sound_runs v sound in
    ap pieces_of (text_of_value v) ∙ pieces_back (lines_of v) (runs_plain (known_names v.names v.declared) (items_of v) opening all.reading all.runs)

-- what all pieces are, all lines are, and the other way round
front_all : (xs ys : List (List ℕ)) → All IsShort (xs ++ ys) → AllByRecursion IsShort xs
front_all [] ys all = tt
front_all (x ∷ xs) ys all = (All-head IsShort x (xs ++ ys) all, front_all xs ys (All-tail IsShort x (xs ++ ys) all))

all_short : (lines : List (List ℕ)) → AllByRecursion IsShort lines → All IsShort (lines ++ [] ∷ [])
all_short [] all = All-from_recursion IsShort ([] ∷ []) (lit≤ tt, tt)
all_short (line ∷ lines) all = All-cons IsShort line (lines ++ [] ∷ []) all.0 (all_short lines all.1)

-- the lines of its own text write each sound value whose lines are short
sound_writes : (v : Value) → IsSound v → HasShortLines v → AreLinesOf (lines_of v) v
sound_writes v sound short =
    let all = sound_runs v sound in
    let lines = front_all (lines_of v) ([] ∷ []) (subst (All IsShort) (pieces_are v sound) short) in
    record {
      reading = all.reading;
      reads = runs_read (known_names v.names v.declared) (items_of v) opening all.reading all.runs lines;
      ended = all.ended;
      says = all.says;
    }

-- no line of the text of a value that lines write is too long
written_short : (v : Value) → IsWritten v → HasShortLines v
written_short v w =
    let sound = written_is_sound v w in
    let all = sound_runs v sound in
    let lines = runs_short (known_names v.names v.declared) (items_of v) opening all.reading all.runs (items_short v (written_calls v w)) in
    subst (All IsShort) (sym (pieces_are v sound)) (all_short (lines_of v) lines)

-- the values that lines write are the sound ones whose lines are short
pub sound_written : (v : Value) → IsWritten v ↔ (IsSound v × HasShortLines v)
sound_written v = (λ w. (written_is_sound v w, written_short v w), λ both. record { lines = lines_of v; written = sound_writes v both.0 both.1 })

-- each sound value is read of its own text
pub sound_reads : (v : Value) → IsSound v → HasShortLines v → length (trace_text v) ≤ 16777216 → value_of (trace_text v) ≡ Ok v
sound_reads v sound lines short =
    written_reads (trace_text v) v
    (record { lines = lines_of v; write = sound_writes v sound lines; text_is = text_of_value v; short = short })

-- the text of a value that lines write is read as that value
pub prints_back : (v : Value) → IsWritten v → length (trace_text v) ≤ 16777216 → value_of (trace_text v) ≡ Ok v
prints_back v w short = sound_reads v (written_is_sound v w) (written_short v w) short

-- a value is told from another
value_set : IsSet (Result Value (ℕ × Cause))
value_set = hlevel props

-- and so is the text of what a trace says
pub trace_prints_back : (t : Trace) → length (trace_text (seen t)) ≤ 16777216 → value_of (trace_text (seen t)) ≡ Ok (seen t)
trace_prints_back t short =
    ∥∥₁_elim t.written (value_set (value_of (trace_text (seen t))) (Ok (seen t))) (λ w. prints_back (seen t) w short)
