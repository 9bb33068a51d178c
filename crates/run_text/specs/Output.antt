-- The output of any run: of a trace, where one was read, and of what came of it.
use Rattle.std.specs.Prelude.{ℕ, ◌+◌, List, [], ◌∷◌, ◌++◌, flat_map, codes, Option, Some, None, Bool, true, false, if◌then◌else◌}
use Rattle.dx_base.specs.Hresult.{code_of}
use Rattle.dx_base.specs.declared.hresult.Hresult.TheVariants.{InvalidArg}
use Rattle.d3d_machine.specs.declared.calls.Call.{Call}
use Rattle.run_text.specs.declared.names.Ending.{Ending}
use Rattle.run_text.specs.declared.names.Names.{Names}
use Rattle.trace_lines.specs.declared.object.Declared.{Declared}
use Rattle.run_text.specs.declared.outcome.Outcome.{Outcome}
use Rattle.run_text.specs.declared.status.Status.{Status}
use Rattle.run_text.specs.declared.status.Status.TheVariants as status
use Rattle.run_text.specs.History.{names_in, event_text}
use Rattle.trace_lines.specs.Kinds.{is_refused}
use Rattle.run_text.specs.Left.{unfinished_threads, busy_queues, unfinished_of, busy_of}
use Rattle.trace_lines.specs.Names.{name_at}
use Rattle.line_forms.specs.Lines.{hex_word, line_text}
use Rattle.run_text.specs.Text.{output_text}
use Rattle.trace_text.specs.Values.{Value}

-- the places of the objects whose creation is refused, of which the first has that place
unfoldable pub refused_from : ℕ → List Declared → List ℕ
refused_from at [] = []
refused_from at (d ∷ ds) = (if is_refused d then at ∷ [] else []) ++ refused_from (at + 1) ds

-- the places of the refused declarations among all, counted from 0
abbrev pub refused_of : Value → List ℕ
refused_of v = refused_from 0 v.declared

-- `refused NAME 80070057`
abbrev pub refused_words : List (List ℕ) → ℕ → List (List ℕ)
refused_words names at = codes "refused" ∷ name_at names at ∷ hex_word (code_of InvalidArg) ∷ []

unfoldable pub refused_text : List (List ℕ) → ℕ → List ℕ
refused_text names at = line_text (refused_words names at)

-- the status is of a run that began, and that did not want memory
abbrev pub tells_run : Status → Bool
tells_run status.Done = true
tells_run status.Stalled = true
tells_run (status.Usage k) = false
tells_run (status.Refused n c) = false
tells_run status.ReadFault = false
tells_run status.WriteFault = false
tells_run (status.Broken r n) = true
tells_run (status.Torn x) = true
tells_run status.DeviceLost = true
tells_run status.Memory = false

-- the fences' values, and what a run of a trace leaves
abbrev pub ending_of : Value → Outcome → Ending
ending_of v o = record { fences = o.fences; threads = unfinished_threads v o.history; queues = busy_queues v o.history }

-- the same by the number of queues and the scripts
abbrev pub ending_from : ℕ → List (List Call) → Outcome → Ending
ending_from n ss o = record { fences = o.fences; threads = unfinished_of ss o.history; queues = busy_of n o.history }

-- the history, where it is shown
abbrev pub shown_history : Names → Outcome → List ℕ
shown_history names o = if o.shown then codes "history\n" ++ flat_map (event_text names) o.history else []

-- for a run that began the refused declarations stand before what the status says, and a history behind it
unfoldable pub told_run : List (List ℕ) → Names → Ending → Outcome → List ℕ
told_run objects names ending o =
    if tells_run o.status
    then flat_map (refused_text objects) o.refused ++ (output_text names o.status o.history ending ++ shown_history names o)
    else output_text names o.status o.history ending

-- the output of a run of a trace
abbrev pub output_with : Value → Outcome → List ℕ
output_with v o = told_run v.names (names_in v) (ending_of v o) o

-- what no trace says
abbrev pub value_or_none : Option Value → Value
value_or_none None = record { names = []; declared = []; scripts = [] }
value_or_none (Some v) = v

-- the output of a run; where no trace was read, there are no names
unfoldable pub output_of : Option Value → Outcome → List ℕ
output_of t o = output_with (value_or_none t) o
