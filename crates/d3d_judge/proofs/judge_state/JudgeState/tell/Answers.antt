use Rattle.std.proofs.Common.{◌∙◌, ap, sym, subst, refl, None}
use Rattle.d3d_judge.specs.declared.kept.Kept.{Kept}
use Rattle.d3d_judge.specs.Prepared.{IsTaken}
use Rattle.d3d_judge.proofs.JudgeStates.{verdict_told, fed_told}
use Rattle.d3d_judge.proofs.judge_state.JudgeState.tell.Goals as goal

pub returns-in-Told-clause-fed : goal.returns-in-Told-clause-fed
returns-in-Told-clause-fed c =
    fed_told c.args.self.now _ c.args.event.now c.requires.awaits (ap (λ (y : Kept). y.fed) c.replace-before.ensures.after ∙ c.then-next.ensures) refl c.clear.ensures.items refl c.in-Told.rule
    (subst (IsTaken c.args.self.now.kept.fed.world c.args.self.now.kept.fed.history c.args.event.now c.args.self.now.parts) c.in-Told.is c.requires.taken) refl

pub returns-in-Told-clause-verdict : goal.returns-in-Told-clause-verdict
returns-in-Told-clause-verdict c =
    verdict_told c.args.self.now c.args.event.now c.requires.awaits c.in-Told.rule
    (subst (IsTaken c.args.self.now.kept.fed.world c.args.self.now.kept.fed.history c.args.event.now c.args.self.now.parts) c.in-Told.is c.requires.taken).rule

pub returns-in-Later-clause-verdict : goal.returns-in-Later-clause-verdict
returns-in-Later-clause-verdict c =
    verdict_told c.args.self.now c.args.event.now c.requires.awaits None
    (sym (subst (IsTaken c.args.self.now.kept.fed.world c.args.self.now.kept.fed.history c.args.event.now c.args.self.now.parts) c.in-Later.is c.requires.taken).quiet)
