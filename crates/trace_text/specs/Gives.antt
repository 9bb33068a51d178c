-- What a call answers that reads, and that may want memory.
use Rattle.std.specs.Prelude.{ℕ, ◌≡◌, Result, Ok, Err}
use Rattle.trace_text.specs.declared.line_fault.LineFault.{LineFault}
use Rattle.trace_text.specs.declared.line_fault.LineFault.TheVariants.{Refused, Memory}
use Rattle.trace_text.specs.declared.trace_fault.TraceFault.{TraceFault}
use Rattle.trace_text.specs.declared.trace_fault.TraceFault.TheVariants as trace
use Rattle.line_forms.specs.declared.cause.Cause.{Cause}

-- the answer is what is to be read, where memory is not refused
abbrev pub Gives : {A : Type 0} → Result A LineFault → Result A Cause → Type 0
Gives (Ok x) read = read ≡ Ok x
Gives (Err (Refused c)) read = read ≡ Err c
Gives (Err Memory) read = Unit {0}

-- the new value is what is to be read, where memory is not refused
abbrev pub Leaves : {A B : Type 0} → Result A LineFault → B → Result B Cause → Type 0
Leaves (Ok x) new read = read ≡ Ok new
Leaves (Err (Refused c)) new read = read ≡ Err c
Leaves (Err Memory) new read = Unit {0}

-- the answer is what is to be read, or the line and the cause, where memory is not refused
abbrev pub Answers : {A : Type 0} → Result A TraceFault → Result A (ℕ × Cause) → Type 0
Answers (Ok x) read = read ≡ Ok x
Answers (Err (trace.Refused n c)) read = read ≡ Err (n, c)
Answers (Err trace.Memory) read = Unit {0}

-- a fault of a line, with the line's number
abbrev pub fault_at : ℕ → LineFault → TraceFault
fault_at n (Refused c) = trace.Refused n c
fault_at n Memory = trace.Memory
