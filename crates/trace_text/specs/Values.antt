-- What a trace says, and the texts that write it.
use Rattle.std.specs.Prelude.{ℕ, ◌≡◌, true, List, [], ◌∷◌, map, Result, Ok, Err}
use Rattle.d3d_machine.specs.declared.calls.Call.{Call}
use Rattle.trace_lines.specs.declared.object.Declared.{Declared}
use Rattle.trace_text.specs.declared.reading.Reading.{Reading}
use Rattle.line_forms.specs.declared.cause.Cause.{Cause}
use Rattle.trace_text.specs.Reading.{opening, and_then}
use Rattle.trace_text.specs.Texts.{with_line, reading_of}

-- what a trace says: the names of its objects and then those of its threads, its objects, and the calls of each thread
pub record Value : Type 0 where
  pub names : List (List ℕ)
  pub declared : List Declared
  pub scripts : List (List Call)

-- what was read
abbrev pub value_in : Reading → Value
value_in r = record { names = map (λ e. e.0) r.names; declared = r.declared; scripts = r.scripts }

abbrev pub valued : Result Reading (ℕ × Cause) → Result Value (ℕ × Cause)
valued (Ok r) = Ok (value_in r)
valued (Err p) = Err p

-- what a text writes; or its first bad line, counted from 1, and the first of the line's causes
unfoldable pub value_of : List ℕ → Result Value (ℕ × Cause)
value_of text = valued (reading_of text)

-- what is read of lines from what was read before, whatever their size together
unfoldable pub with_lines : Reading → List (List ℕ) → Result Reading Cause
with_lines r [] = Ok r
with_lines r (line ∷ lines) = and_then (with_line r line) (λ s. with_lines s lines)

-- lines write a value: the last of them is the line `end`
pub record AreLinesOf (lines : List (List ℕ)) (v : Value) : Type 0 where
  pub reading : Reading
  pub reads : with_lines opening lines ≡ Ok reading
  pub ended : reading.ended ≡ true
  pub says : value_in reading ≡ v

-- a value is one that lines write
pub record IsWritten (v : Value) : Type 0 where
  pub lines : List (List ℕ)
  pub written : AreLinesOf lines v
