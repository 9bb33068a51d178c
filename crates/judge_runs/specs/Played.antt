-- A machine that is played, and its judge.
use Rattle.std.specs.Prelude.{◌≡◌, Bool, true, false, Option, Some, None}
use Rattle.d3d_machine.specs.declared.events.Event.{Event}
use Rattle.d3d_machine.specs.declared.world.World.{World}
use Rattle.d3d_machine.specs.Effects.{after}
use Rattle.d3d_machine.specs.Play.{May, SameReply, state_after}
use Rattle.d3d_machine.specs.Shape.{HasShape}
use Rattle.d3d_machine.specs.State.{State}
use Rattle.d3d_machine.specs.World.{are_named}
use Rattle.verdicts.specs.declared.rules.Verdict.{Verdict}
use Rattle.verdicts.specs.declared.rules.Verdict.TheVariants.{Clean, Broken}
use Rattle.d3d_judge.specs.Fed.{JudgeView}
use Rattle.d3d_judge.specs.Judged.{judge}

-- the machine's state is that after the events that the judge was fed, and no rule is broken
pub record IsWith (w : World) (s : State) (f : JudgeView) : Type 0 where
  pub named : are_named w ≡ true
  pub shape : HasShape w s
  pub world : f.world ≡ w
  pub state : s ≡ state_after w f.history
  pub clean : judge w f.history ≡ Clean

-- as long as it goes on
abbrev pub IsPlayed : World → State → JudgeView → Bool → Type 0
IsPlayed w s f true = IsWith w s f
IsPlayed w s f false = Unit {0}

-- the event of a step, and the state after it
abbrev pub IsTaken : World → State → Option Event → State → Type 0
IsTaken w s None u = u ≡ s
IsTaken w s (Some e) u = May SameReply w s e × (u ≡ after w s e)

-- no rule is broken
abbrev pub clean : Verdict → Bool
clean Clean = true
clean (Broken r n) = false
