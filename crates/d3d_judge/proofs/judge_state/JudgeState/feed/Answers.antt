use Rattle.std.proofs.Common.{◌∙◌, sym, subst}
use Rattle.d3d_judge.specs.declared.kept.Kept.{Kept}
use Rattle.d3d_judge.specs.Fed.{IsNext}
use Rattle.d3d_judge.proofs.Calls.{on_err}
use Rattle.d3d_judge.proofs.JudgeStates.{not_prepared, not_prepared_alone, open_still, awaits_more, taken_in, verdict_in, fed_views}
use Rattle.d3d_judge.proofs.judge_state.JudgeState.feed.Goals as goal

pub returns-in_err-settle-clause-sure : goal.returns-in_err-settle-clause-sure
returns-in_err-settle-clause-sure c = on_err c.from_residual.result (not_prepared_alone c.args.self.now c.args.event.now c.in_err-settle.ensures.sure)

pub returns-in_err-made-clause-sure : goal.returns-in_err-made-clause-sure
returns-in_err-made-clause-sure c = on_err c.from_residual-in_err-made.result (not_prepared c.args.self.now c.settle.new.self c.args.event.now c.in_ok-settle.ensures.prepared c.in_err-made.ensures.sure)

pub take-taken-requires-clause-opened : goal.take-taken-requires-clause-opened
take-taken-requires-clause-opened c = open_still c.args.world.now c.settle.new.self c.made.new.self c.in_ok-settle.ensures.judging c.in_ok-made.ensures.kept c.in_ok-made.ensures.stands

pub take-taken-requires-clause-next : goal.take-taken-requires-clause-next
take-taken-requires-clause-next c = subst (λ (y : Kept). IsNext c.args.world.now y.fed.history c.args.event.now) (sym (c.in_ok-made.ensures.kept ∙ c.in_ok-settle.ensures.kept)) c.requires.next

pub tell-requires-clause-awaits : goal.tell-requires-clause-awaits
tell-requires-clause-awaits c = awaits_more c.args.world.now c.settle.new.self _ c.made.new.self.parts c.in_ok-settle.ensures.judging c.in_ok-made.ensures.kept c.in_ok-made.ensures.events c.in_ok-made.ensures.stands

pub tell-requires-clause-taken : goal.tell-requires-clause-taken
tell-requires-clause-taken c = taken_in c.args.world.now c.settle.new.self c.made.new.self c.args.event.now _ _ c.in_ok-settle.ensures.judging c.in_ok-made.ensures.kept c.take-taken.ensures

pub returns-clause-verdict : goal.returns-clause-verdict
returns-clause-verdict c = verdict_in c.args.world.now c.args.self.now c.made.new.self c.args.event.now _ (c.in_ok-made.ensures.kept ∙ c.in_ok-settle.ensures.kept) c.requires.judging.world c.tell.ensures.verdict

pub returns-clause-more : goal.returns-clause-more
returns-clause-more c = c.tell.ensures.more ∙ fed_views c.args.self.now c.made.new.self c.args.event.now (c.in_ok-made.ensures.kept ∙ c.in_ok-settle.ensures.kept)
