use Rattle.std.proofs.Common.{ap, refl}
use Rattle.d3d_judge.proofs.Calls.{on_err}
use Rattle.d3d_judge.proofs.JudgeStates.{furnished}
use Rattle.d3d_judge.proofs.judge_state.JudgeState.made.Goals as goal

pub returns-in-None-clause-fed : goal.returns-in-None-clause-fed
returns-in-None-clause-fed c =
    on_err c.make.result (furnished c.args.world.now c.args.self.now c.requires.judging _ c.requires.settled c.requires.settled refl refl c.make.ensures.stands c.make.ensures.furnishes (ap (λ v. v.items) (c.in-None.ensures.same refl))).fed

pub returns-in-None-clause-same : goal.returns-in-None-clause-same
returns-in-None-clause-same c = on_err c.make.result (c.in-None.ensures.same refl)
