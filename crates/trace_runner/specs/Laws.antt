-- The laws of runs of rounds, as types.
use Rattle.std.specs.Prelude.{◌≡◌, ◌≤◌, ◌⊎◌, List, [], ◌∷◌, length, Ok}
use Rattle.d3d_machine.specs.declared.world.World.{World}
use Rattle.d3d_machine.specs.declared.events.Event.{Event}
use Rattle.d3d_machine.specs.Play.{IsRunButWords, IsFinished, state_after}
use Rattle.sys_core.specs.Ahead.{IsCalm}
use Rattle.sys_core.specs.Laws.{CanGoOn}
use Rattle.trace_text.specs.Grammar.{text_of_lines}
use Rattle.trace_text.specs.Items.{trace_text}
use Rattle.trace_text.specs.Values.{value_of}
use Rattle.trace_text.specs.WorldOf.{world_of_value}
use Rattle.trace_runner.specs.Rounds.{Round, AreRising, AreSmall, IsOfRounds, first_round, first_lines, value_of_rounds, world_of_rounds}

-- after each run of a world of rounds, all is finished or the Direct3D machine can go on
abbrev pub RoundsGoOn : Type 0
RoundsGoOn = (w : World) → (h : List Event) → IsOfRounds w → IsRunButWords w h → IsFinished w (state_after w h).desk ⊎ CanGoOn w h

-- the world of a trace of rounds is one of rounds
abbrev pub TracesOfRoundsHaveTheirWorlds : Type 0
TracesOfRoundsHaveTheirWorlds = (rounds : List Round) → world_of_value (value_of_rounds rounds) ≡ world_of_rounds rounds

-- the text of at most 4,096 rounds, small ones that rise from 0, is read as those rounds; what it says has a world of
-- rounds; and that of the round of the first example is its text, with data words of eight digits
pub record TextsOfRoundsAreRead : Type 0 where
  pub reads : (rounds : List Round) → AreRising 0 rounds → AreSmall rounds → length rounds ≤ 4096 →
      value_of (trace_text (value_of_rounds rounds)) ≡ Ok (value_of_rounds rounds)
  pub worlds : (rounds : List Round) → AreRising 0 rounds → IsOfRounds (world_of_value (value_of_rounds rounds))
  pub first : trace_text (value_of_rounds (first_round ∷ [])) ≡ text_of_lines first_lines

-- each run of a world of rounds is calm, whatever words its reads have
abbrev pub RoundsAreCalm : Type 0
RoundsAreCalm = (w : World) → (h : List Event) → IsOfRounds w → IsRunButWords w h → IsCalm w h
