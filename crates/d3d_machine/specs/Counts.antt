-- What all scripts have together: their calls, and the lists that they name to be executed.
use Rattle.std.specs.Prelude.{ℕ, List, length, Option, Some, None, sum_by}
use Rattle.dx_base.specs.Effects.{At}
use Rattle.d3d_machine.specs.declared.calls.Call.{Call}
use Rattle.d3d_machine.specs.CallEffects.{Task, executes, signals, does}

-- how many lists a task names
abbrev pub lists_of_task : Task → ℕ
lists_of_task (executes ls) = length ls
lists_of_task (signals f v) = 0

abbrev pub lists_given : Option (At Task) → ℕ
lists_given None = 0
lists_given (Some x) = lists_of_task x.what

-- how many lists a call names to be executed, each naming counted
abbrev pub lists_of_call : Call → ℕ
lists_of_call c = lists_given (does c).gives

-- the calls of all threads
abbrev pub calls_in_all : List (List Call) → ℕ
calls_in_all ss = sum_by length ss

-- the lists that all calls name to be executed
abbrev pub lists_in_all : List (List Call) → ℕ
lists_in_all ss = sum_by (λ s. sum_by lists_of_call s) ss
