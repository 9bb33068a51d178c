use Rattle.std.proofs.Common.{◌∙◌, ap, refl}
use Rattle.d3d_machine.specs.declared.events.Operation.TheVariants as operation
use Rattle.d3d_judge.specs.Carried.{carried}
use Rattle.d3d_judge.specs.Happenings.{Calls, Gives, work_of}
use Rattle.d3d_judge.proofs.Calls.{found_signal}
use Rattle.d3d_judge.proofs.judge_parts.JudgeParts.signal.Goals as goal

pub returns-clause-found : goal.returns-clause-found
returns-clause-found c =
    found_signal c.args.world.now c.args.kept.now.fed.history c.args.self.now _ c.args.thread c.args.queue c.args.fence c.args.value c.requires refl
    (c.give.ensures ∙ ap (λ y. carried y (Calls c.args.thread (Gives c.args.queue.0 (work_of (operation.Signal c.args.fence c.args.value))))) c.in_ok-make_room_for_work.ensures.clocks) refl
