use Rattle.std.proofs.Common.{◌∙◌, ap, sym, refl, Some}
use Rattle.d3d_machine.specs.declared.events.Operation.TheVariants as operation
use Rattle.d3d_judge.proofs.Completions.{none_completes, signal_completes, execute_completes, copies_ready, completed_queue, completed_counts}
use Rattle.d3d_judge.proofs.judge_parts.JudgeParts.complete.Goals as goal

pub queue_clock-requires : goal.queue_clock-requires
queue_clock-requires c = completed_queue c.args.world.now c.args.kept.now.fed.history c.args.self.now c.args.queue c.requires.takes c.complete.new.self c.complete.ensures.clocks

pub last_operation-requires : goal.last_operation-requires
last_operation-requires c = completed_counts c.args.world.now c.args.kept.now.fed.history c.args.self.now c.args.queue c.requires.takes c.complete.new.self c.complete.ensures.clocks

pub copies_rule-requires : goal.copies_rule-requires
copies_rule-requires c =
    copies_ready c.args.world.now c.args.kept.now.fed.history c.args.self.now c.args.queue c.requires.takes c.complete.new.self c.as_slice.result.now (ap (λ cs. Some (operation.Execute cs)) c.as_slice.ensures ∙ (ap Some (sym c.in-Some-Execute.field-0-is) ∙ c.in-Some-Execute.ensures.operation)) c.complete.ensures.clocks _ c.args.counts.now c.queue_clock.ensures c.requires.counts c.requires.ready

pub returns-in-None : goal.returns-in-None
returns-in-None c = none_completes c.args.world.now c.args.kept.now.fed.history c.args.self.now c.args.queue c.requires.takes _ c.in-None.ensures.operation c.complete.ensures.clocks refl refl

pub returns-in-Some-Signal : goal.returns-in-Some-Signal
returns-in-Some-Signal c = signal_completes c.args.world.now c.args.kept.now.fed.history c.args.self.now c.args.queue c.requires.takes _ c.in-Some-Signal._fence c.in-Some-Signal._value (ap Some (sym c.in-Some-Signal.field-0-is) ∙ c.in-Some-Signal.ensures.operation) c.complete.ensures.clocks refl refl

pub returns-in-Some-Execute : goal.returns-in-Some-Execute
returns-in-Some-Execute c =
    execute_completes c.args.world.now c.args.kept.now.fed.history c.args.self.now c.args.queue c.requires.takes c.complete.new.self c.as_slice.result.now (ap (λ cs. Some (operation.Execute cs)) c.as_slice.ensures ∙ (ap Some (sym c.in-Some-Execute.field-0-is) ∙ c.in-Some-Execute.ensures.operation)) c.complete.ensures.clocks _ c.args.self.now.touches.resources _ c.args.counts.now
    _ c.copies_rule.result c.queue_clock.ensures c.last_operation.ensures c.requires.counts c.requires.takes.opened.stands.ties c.copies_rule.ensures.rule refl refl c.copies_rule.ensures.shaped
