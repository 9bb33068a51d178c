use Rattle.std.proofs.Common.{◌∙◌, ap, refl}
use Rattle.d3d_judge.specs.Carried.{carried}
use Rattle.d3d_judge.specs.Happenings.{Calls, SetsFence}
use Rattle.d3d_judge.proofs.Calls.{found_set}
use Rattle.d3d_judge.proofs.judge_parts.JudgeParts.set_fence.Goals as goal

pub returns-clause-found : goal.returns-clause-found
returns-clause-found c =
    found_set c.args.world.now c.args.kept.now.fed.history c.args.self.now _ c.args.thread c.args.fence c.args.value c.requires refl
    (c.set_fence.ensures ∙ ap (λ y. carried y (Calls c.args.thread (SetsFence c.args.fence.0 c.args.value))) c.in_ok-make_room_for_update.ensures.clocks) refl
