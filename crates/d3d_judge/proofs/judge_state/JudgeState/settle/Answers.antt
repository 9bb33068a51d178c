use Rattle.d3d_judge.proofs.JudgeStates.{settled}
use Rattle.d3d_judge.proofs.judge_state.JudgeState.settle.Goals as goal

pub returns-in_ok-_rule-in-Some-clause-judging : goal.returns-in_ok-_rule-in-Some-clause-judging
returns-in_ok-_rule-in-Some-clause-judging c = settled c.args.world.now c.args.self.now c.requires c.in-Some.late c.in-Some.is c.take_late.new.self c.in_ok-_rule-in-Some._rule c.in_ok-_rule-in-Some.ensures.found
