-- What each call does: the one table of calls. What it means in a world and a state stands in Replies and Effects.
use Rattle.std.specs.Prelude.{ℕ, ◌/◌, ◌==◌, List, [], ◌∷◌, Option, Some, None, if◌then◌else◌}
use Rattle.dx_base.specs.Effects.{At, at}
use Rattle.dx_base.specs.declared.ids.ListId.{ListId}
use Rattle.dx_base.specs.declared.ids.FenceId.{FenceId}
use Rattle.d3d_machine.specs.declared.calls.Call.{Call}
use Rattle.d3d_machine.specs.declared.calls.Call.TheVariants as call
use Rattle.d3d_machine.specs.declared.calls.Record.{Record}

-- what is there for the object of that place
abbrev pub here_of : {A : Type 0} → ℕ → Option (At A) → List A
here_of k None = []
here_of k (Some x) = if (x.place == k) then x.what ∷ [] else []

-- how a list changes: it takes a command, closes, fails, or begins to record from an allocator
pub data Change : Type 0 where
  records : Record → Change
  closes : Change
  fails : Change
  begins : ℕ → Change

-- what a queue is given to do
pub data Task : Type 0 where
  executes : List ListId → Task
  signals : FenceId → ℕ → Task

-- what a call does where it is not refused: a list that changes, a task for a queue, a value that a fence takes, a wait of
-- the caller on a fence, words that a buffer takes from a place on, words from a place on that are read, and a fence whose
-- value is asked; and the list whose recording it ends, which has failed where the call is refused while it is recording
pub record Does : Type 0 where
  pub list : Option (At Change)
  pub gives : Option (At Task)
  pub sets : Option (At ℕ)
  pub waits : Option (At ℕ)
  pub stores : Option (At (ℕ × List ℕ))
  pub reads : Option (At (ℕ × ℕ))
  pub asks : Option ℕ
  pub ends : Option ℕ

abbrev pub no_effect : Does
no_effect = record { list = None; gives = None; sets = None; waits = None; stores = None; reads = None; asks = None; ends = None }

-- the table
abbrev pub does : Call → Does
does (call.Recording l what) = record no_effect { list = at l.0 (records what) }
does (call.Close l) = record no_effect { list = at l.0 closes; ends = Some l.0 }
does (call.Reset l a) = record no_effect { list = at l.0 (begins a.0) }
does (call.Execute q ls) = record no_effect { gives = at q.0 (executes ls) }
does (call.Signal q f v) = record no_effect { gives = at q.0 (signals f v) }
does (call.HostSignal f v) = record no_effect { sets = at f.0 v }
does (call.HostWait f v) = record no_effect { waits = at f.0 v }
does (call.Value f) = record no_effect { asks = Some f.0 }
does (call.Write b offset ws) = record no_effect { stores = at b.0 (offset / 4, ws) }
does (call.Read b offset bytes) = record no_effect { reads = at b.0 (offset / 4, bytes / 4) }
