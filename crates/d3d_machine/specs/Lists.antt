-- The calls on lists, said of the lists alone: why each is refused, and the lists after it.
use Rattle.std.specs.Prelude.{ℕ, ◌||◌, not, List, slice_get, map, Option, Some, None, Result, Ok, Err, Bool, true, false}
use Rattle.std.specs.List.{list_all, list_any}
use Rattle.dx_base.specs.Lists.{changed_at}
use Rattle.dx_base.specs.declared.ids.ListId.{ListId}
use Rattle.dx_base.specs.declared.hresult.Hresult.{Hresult}
use Rattle.dx_base.specs.declared.hresult.Hresult.TheVariants.{InvalidArg, Fail}
use Rattle.d3d_machine.specs.declared.world.World.{World}
use Rattle.d3d_machine.specs.declared.calls.Record.{Record}
use Rattle.d3d_machine.specs.declared.events.Listed.{Listed}
use Rattle.d3d_machine.specs.declared.events.Command.{Command}
use Rattle.d3d_machine.specs.State.{list_of, is_recording, is_closed_state}
use Rattle.d3d_machine.specs.Replies.{refuse_if, records_from, same_types, is_fit}
use Rattle.d3d_machine.specs.Effects.{recorded, closed, failed, begun, gathered}

-- the lists after a call that is not refused, or after one that is
abbrev pub lists_or : Option Hresult → List Listed → List Listed → List Listed
lists_or None good bad = good
lists_or (Some e) good bad = bad

-- why a recording call is refused
abbrev pub record_refusal : List Listed → ℕ → Option Hresult
record_refusal lists l = refuse_if (not (is_recording (list_of lists l))) Fail None

-- the lists after a recording call
abbrev pub lists_after_record : World → List Listed → ℕ → Record → List Listed
lists_after_record w lists l what = lists_or (record_refusal lists l) (changed_at (recorded w what) l lists) lists

-- why a close is refused
abbrev pub close_refusal : List Listed → ℕ → Option Hresult
close_refusal lists l = refuse_if (not (is_recording (list_of lists l))) Fail (list_of lists l).error

abbrev pub ended_by : Option Hresult → Listed → Listed
ended_by None x = closed x
ended_by (Some e) x = failed x

-- a list that ends to record
abbrev pub ended : Listed → Listed
ended x = ended_by x.error x

abbrev pub failed_lists_if : Bool → ℕ → List Listed → List Listed
failed_lists_if true l lists = changed_at failed l lists
failed_lists_if false l lists = lists

-- the lists after a close: a recording list is closed, or has failed where it holds an error
abbrev pub lists_after_close : List Listed → ℕ → List Listed
lists_after_close lists l =
    lists_or (close_refusal lists l) (changed_at closed l lists) (failed_lists_if (is_recording (list_of lists l)) l lists)

-- why a reset is refused
abbrev pub reset_refusal : World → List Listed → ℕ → ℕ → Option Hresult
reset_refusal w lists l a =
    refuse_if (is_recording (list_of lists l)) Fail
    (refuse_if (list_any (records_from a) lists || not (same_types (slice_get w.lists l) (slice_get w.allocators a))) InvalidArg None)

-- the lists after a reset
abbrev pub lists_after_reset : World → List Listed → ℕ → ℕ → List Listed
lists_after_reset w lists l a = lists_or (reset_refusal w lists l a) (changed_at (λ _. begun a) l lists) lists

-- why an execution of lists on a queue is refused
abbrev pub execute_refusal : World → List Listed → ℕ → List ListId → Option Hresult
execute_refusal w lists q ls = refuse_if (not (list_all (λ l. is_fit w lists q l.0) ls)) Fail None

-- the error of a refused call, or what the call gives
abbrev pub answer_or : {A : Type 0} → Option Hresult → A → Result A Hresult
answer_or None x = Ok x
answer_or (Some e) x = Err e

-- the commands that an execution of lists gives a queue
abbrev pub commands_of : List Listed → List ListId → List Command
commands_of lists ls = gathered lists (map (λ l. l.0) ls)

abbrev pub commands_if : Bool → List Command → Option (List Command)
commands_if true commands = Some commands
commands_if false commands = None

-- the commands of a closed list
abbrev pub closed_commands : Listed → Option (List Command)
closed_commands x = commands_if (is_closed_state x.state) x.commands
