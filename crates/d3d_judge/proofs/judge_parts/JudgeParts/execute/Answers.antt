use Rattle.std.proofs.Common.{◌∙◌, ap, sym, refl}
use Rattle.d3d_machine.specs.declared.events.Operation.TheVariants as operation
use Rattle.d3d_machine.specs.Lists.{execute_refusal, commands_of, answer_or}
use Rattle.d3d_judge.specs.Carried.{carried, called_by}
use Rattle.d3d_judge.specs.Happenings.{Calls, Gives, work_of}
use Rattle.d3d_judge.proofs.Calls.{found_refused, found_execute}
use Rattle.d3d_judge.proofs.judge_parts.JudgeParts.execute.Goals as goal

pub returns-in-Err-clause-found : goal.returns-in-Err-clause-found
returns-in-Err-clause-found c =
    found_refused c.args.world.now c.args.kept.now.fed.history c.args.self.now _ c.args.thread c.args.queue c.args.lists.now c.in-Err.field-0 c.requires (sym c.in-Err.is ∙ (c.in_ok-commands.ensures ∙ ap (λ ls. answer_or (execute_refusal c.args.world.now c.args.self.now.lists c.args.queue.0 ls) (commands_of c.args.self.now.lists ls)) c.as_slice.ensures)) refl
    (c.call.ensures ∙ ap (λ y. called_by y c.args.thread) c.in_ok-make_room_for_work.ensures.clocks) refl

pub returns-in-Ok-clause-found : goal.returns-in-Ok-clause-found
returns-in-Ok-clause-found c =
    found_execute c.args.world.now c.args.kept.now.fed.history c.args.self.now _ c.args.thread c.args.queue c.args.lists.now c.in-Ok.commands c.requires (sym c.in-Ok.is ∙ (c.in_ok-commands.ensures ∙ ap (λ ls. answer_or (execute_refusal c.args.world.now c.args.self.now.lists c.args.queue.0 ls) (commands_of c.args.self.now.lists ls)) c.as_slice.ensures)) refl
    (c.give.ensures ∙ ap (λ y. carried y (Calls c.args.thread (Gives c.args.queue.0 (work_of (operation.Execute c.in-Ok.commands))))) c.in_ok-make_room_for_work.ensures.clocks) refl
