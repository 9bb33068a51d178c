-- What the laws of clocks say.
use Rattle.std.specs.Prelude.{◌≡◌, ◌||◌}
use Rattle.clocks.specs.declared.clock.Clock.{Clock}
use Rattle.clocks.specs.Clocks.{Act, joined, knows}

-- a joined clock knows exactly what one of the two knows
abbrev pub JoinKnowsBoth : Type 0
JoinKnowsBoth = (a b : Clock) (x : Act) → knows (joined a b) x ≡ (knows a x || knows b x)
