-- The words that calls access.
use Rattle.std.specs.Prelude.{ℕ, ◌/◌, length, true, false, Option, Some, None}
use Rattle.dx_base.specs.declared.hresult.Hresult.{Hresult}
use Rattle.dx_base.specs.declared.ids.ResourceId.{ResourceId}
use Rattle.d3d_machine.specs.declared.calls.Call.{Call}
use Rattle.d3d_machine.specs.declared.calls.Call.TheVariants as call
use Rattle.d3d_machine.specs.declared.world.World.{World}
use Rattle.d3d_machine.specs.Checks.{write_refusal, read_refusal}
use Rattle.d3d_judge.specs.declared.word_touches.WordAccess.{WordAccess}

-- a call that is refused accesses nothing
abbrev pub access_unless : Option Hresult → WordAccess → Option WordAccess
access_unless None a = Some a
access_unless (Some e) a = None

-- what the writing of so many words accesses, and the reading of so many bytes
abbrev pub written_at : World → ResourceId → ℕ → ℕ → Option WordAccess
written_at w b offset count = access_unless (write_refusal w b.0 offset count) (record { resource = b.0; sub = 0; first = offset / 4; words = count; writes = true })

abbrev pub read_at : World → ResourceId → ℕ → ℕ → Option WordAccess
read_at w b offset bytes = access_unless (read_refusal w b.0 offset bytes) (record { resource = b.0; sub = 0; first = offset / 4; words = bytes / 4; writes = false })

-- what a call accesses
abbrev pub access_in : World → Call → Option WordAccess
access_in w (call.Recording l what) = None
access_in w (call.Close l) = None
access_in w (call.Reset l a) = None
access_in w (call.Execute q ls) = None
access_in w (call.Signal q f v) = None
access_in w (call.HostSignal f v) = None
access_in w (call.HostWait f v) = None
access_in w (call.Value f) = None
access_in w (call.Write b offset ws) = written_at w b offset (length ws)
access_in w (call.Read b offset bytes) = read_at w b offset bytes
