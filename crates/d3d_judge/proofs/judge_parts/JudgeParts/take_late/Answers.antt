use Rattle.std.proofs.Common.{sym, subst, IfOk}
use Rattle.d3d_judge.specs.Prepared.{LateFound}
use Rattle.d3d_judge.proofs.judge_parts.JudgeParts.take_late.Goals as goal

pub returns-in-Call-clause-found : goal.returns-in-Call-clause-found
returns-in-Call-clause-found c =
    subst (λ y. IfOk c.take_call.result (λ rule. LateFound c.args.world.now c.args.late.now.before.fed.history y c.take_call.new.self rule)) (sym c.in-Call.is) c.take_call.ensures.found
