use Rattle.std.proofs.Common.{sym, subst}
use Rattle.judge_runs.specs.Played.{IsPlayed, IsTaken}
use Rattle.judge_runs.proofs.Played.{plays_on, went_on}
use Rattle.judge_runs.proofs.player.Player.step.Goals as goal

pub invariant_of-self-in-Ok : goal.invariant_of-self-in-Ok
invariant_of-self-in-Ok c =
    subst (IsPlayed c.self.inside.world c.taken.new.machine c.verdict_on_step.new.judge) (sym c.is_clean-self-inside.ensures)
    (plays_on c.self.inside.world c.self.inside.machine c.taken.new.machine c.self.inside.judge c.verdict_on_step.new.judge c.in-Some.event c.in-Ok.verdict
    (went_on c.self.inside.world c.self.inside.machine c.self.inside.judge c.self.inside.goes_on c.if-not-self.false c.self.invariant)
    (subst (λ o. IsTaken c.self.inside.world c.self.inside.machine o c.taken.new.machine) c.in-Some.is c.in_ok-taken.ensures.event)
    c.taken.ensures.shape c.in-Ok.ensures.world c.in-Ok.ensures.history c.in-Ok.ensures.verdict)
