-- What the lines of a stalled run say of the machine's state.
use Rattle.std.specs.Prelude.{ℕ, ◌≡◌, ◌<◌, ◌==◌, ◌||◌, not, nat_lt, List, length, Bool, is_some}
use Rattle.d3d_machine.specs.declared.world.World.{World}
use Rattle.d3d_machine.specs.declared.calls.Call.{Call}
use Rattle.d3d_machine.specs.declared.events.Event.{Event}
use Rattle.d3d_machine.specs.State.{Place, script_of, place_of, called_of}
use Rattle.d3d_machine.specs.Play.{IsRunButWords, state_after}
use Rattle.run_text.specs.Left.{is_unfinished_of, is_busy}

-- a thread has not made all calls of its script, or waits
abbrev pub is_short_of : List Call → Place → Bool
is_short_of script p = not (p.made == length script) || is_some p.waits

-- after each run, also but for words, a thread is told as unfinished exactly where the machine's has calls left or waits, and
-- a queue as busy exactly where the machine's has a called operation that is not complete
pub record StalledLinesTellTheState : Type 0 where
  pub threads : (w : World) (h : List Event) → IsRunButWords w h → (t : ℕ) → t < length w.scripts →
      is_unfinished_of w.scripts h t ≡ is_short_of (script_of w t) (place_of (state_after w h).desk t)
  pub queues : (w : World) (h : List Event) → IsRunButWords w h → (q : ℕ) → q < length w.queues →
      is_busy h q ≡ nat_lt 0 (length (called_of (state_after w h).desk q))
