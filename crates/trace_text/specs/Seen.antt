-- What contracts see of a trace, and what reading one answers.
use Rattle.std.specs.Prelude.{ℕ, ◌≡◌, Result, Ok, Err}
use Rattle.line_forms.specs.declared.cause.Cause.{Cause}
use Rattle.trace_text.specs.declared.trace.Trace.{Trace}
use Rattle.trace_text.specs.declared.trace_fault.TraceFault.{TraceFault}
use Rattle.trace_text.specs.declared.trace_fault.TraceFault.TheVariants.{Refused, Memory}
use Rattle.trace_text.specs.Values.{Value}

-- what a trace says
abbrev pub seen : Trace → Value
seen t = record { names = t.names; declared = t.declared; scripts = t.scripts }

-- the answer is what is to be read, or the first bad line and its first cause, where memory is not refused
abbrev pub IsRead : Result Trace TraceFault → Result Value (ℕ × Cause) → Type 0
IsRead (Ok t) read = read ≡ Ok (seen t)
IsRead (Err (Refused n c)) read = read ≡ Err (n, c)
IsRead (Err Memory) read = Unit {0}
