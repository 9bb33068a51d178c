use Rattle.std.proofs.Common.{◌∙◌, ap, sym, subst, refl}
use Rattle.std.specs.List.{list_any}
use Rattle.d3d_judge.specs.declared.kept.Kept.{Kept}
use Rattle.d3d_judge.specs.Fed.{IsNext}
use Rattle.d3d_judge.specs.Prepared.{is_for}
use Rattle.d3d_judge.proofs.JudgeStates.{furnished, prepared_more, view_kept, view_more}
use Rattle.d3d_judge.proofs.judge_state.JudgeState.prepare.Goals as goal

pub returns-then-is_prepared-clause-prepared : goal.returns-then-is_prepared-clause-prepared
returns-then-is_prepared-clause-prepared c =
    view_kept c.args.self.now c.settle.new.self c.args.event.now c.of-actor.result c.is_prepared.result c.in_ok-settle.ensures.kept c.in_ok-settle.ensures.prepared c.of-actor.ensures (c.is_prepared.ensures ∙ ap (list_any (is_for c.of-actor.result)) c.as_slice.ensures.value) c.if-is_prepared.true

pub returns-in_err-made-clause-fed : goal.returns-in_err-made-clause-fed
returns-in_err-made-clause-fed c =
    (furnished c.args.world.now c.settle.new.self c.in_ok-settle.ensures.judging _ c.in_ok-settle.ensures.settled c.in_ok-settle.ensures.settled refl refl c.make.ensures.stands c.make.ensures.furnishes refl).fed

pub returns-in_err-push-clause-fed : goal.returns-in_err-push-clause-fed
returns-in_err-push-clause-fed c =
    (furnished c.args.world.now c.settle.new.self c.in_ok-settle.ensures.judging _ c.in_ok-settle.ensures.settled c.in_ok-settle.ensures.settled refl refl c.in_ok-made.ensures.stands c.in_ok-made.ensures.furnishes c.in_err-push.ensures.items).fed

pub returns-clause-fed : goal.returns-clause-fed
returns-clause-fed c =
    (prepared_more c.args.world.now c.settle.new.self c.in_ok-settle.ensures.judging _ c.in_ok-settle.ensures.settled c.in_ok-settle.ensures.settled refl refl c.in_ok-made.ensures.stands c.args.event.now
    (record { actor = c.of-actor.result; made = c.in_ok-made.made }) c.in_ok-made.ensures.furnishes
    (subst (λ (y : Kept). IsNext c.args.world.now y.fed.history c.args.event.now) (sym c.in_ok-settle.ensures.kept) c.requires.next) c.of-actor.ensures c.in_ok-made.ensures.made c.in_ok-push.ensures.items).fed

pub returns-clause-prepared : goal.returns-clause-prepared
returns-clause-prepared c =
    view_more c.args.self.now c.settle.new.self (record c.settle.new.self { prepared = c.push.new.self }) c.args.event.now (record { actor = c.of-actor.result; made = c.in_ok-made.made }) c.is_prepared.result c.in_ok-settle.ensures.kept c.in_ok-settle.ensures.prepared refl
    c.in_ok-push.ensures.items c.of-actor.ensures (c.is_prepared.ensures ∙ ap (list_any (is_for c.of-actor.result)) c.as_slice.ensures.value) c.if-is_prepared.false
