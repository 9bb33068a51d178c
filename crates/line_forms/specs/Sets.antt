-- Sets, as their words write them: names with bars between.
use Rattle.std.specs.Prelude.{ℕ, ◌==◌, ◌++◌, List, [], ◌∷◌, Bool, true, bit_and, bit_or, Option, Some, None, Result, Ok, Err, if◌then◌else◌}
use Rattle.dx_flags.specs.AccessNames.{access_table}
use Rattle.dx_flags.specs.StateNames.{state_table}
use Rattle.dx_flags.specs.SyncNames.{sync_table}
use Rattle.trace_words.specs.Cut.{pieces_at}
use Rattle.trace_words.specs.Rows.{row_of}
use Rattle.line_forms.specs.declared.cause.Cause.{Cause}
use Rattle.line_forms.specs.declared.cause.Cause.TheVariants as cause
use Rattle.line_forms.specs.declared.sets.SetOf.{SetOf}
use Rattle.line_forms.specs.declared.sets.SetOf.TheVariants as set

-- the names and their bits, in the order in which they are printed
abbrev pub rows_of : SetOf → List (List ℕ × ℕ)
rows_of set.Sync = sync_table
rows_of set.Access = access_table
rows_of set.State = state_table

-- a set with one more name, which it has not yet
abbrev pub with_bit : Option ℕ → Result ℕ Cause → Result ℕ Cause
with_bit None set = Err cause.Form
with_bit (Some b) (Err e) = Err e
with_bit (Some b) (Ok s) = if bit_and s b == 0 then Ok (bit_or s b) else Err cause.Form

-- the set of some names
unfoldable pub set_in : List (List ℕ × ℕ) → List (List ℕ) → Result ℕ Cause
set_in rows [] = Ok 0
set_in rows (w ∷ ws) = with_bit (row_of rows w) (set_in rows ws)

-- the set that a word writes
unfoldable pub set_from : List (List ℕ × ℕ) → List ℕ → Result ℕ Cause
set_from rows w = set_in rows (pieces_at 124 w)

-- the names of a set that rows have, with bars between; a name stands before them or not
unfoldable pub set_text : List (List ℕ × ℕ) → ℕ → Bool → List ℕ
set_text [] s begun = []
set_text (row ∷ rows) s begun =
    if bit_and s row.1 == 0 then set_text rows s begun
    else (if begun then 124 ∷ [] else []) ++ (row.0 ++ set_text rows s true)
