use Rattle.std.proofs.Common.{refl}
use Rattle.d3d_judge.specs.Happenings.{Wakes}
use Rattle.d3d_judge.specs.JudgeParts.{waking_of}
use Rattle.d3d_judge.proofs.Standing.{quiet_found}
use Rattle.d3d_judge.proofs.judge_parts.JudgeParts.wake.Goals as goal

pub returns : goal.returns
returns c =
    quiet_found c.args.world.now c.args.kept.now.fed.history (waking_of c.args.thread) c.args.self.now _ (Wakes c.args.thread) c.requires.opened.clean c.requires.opened.stands refl refl c.requires.thread
    c.requires.opened.stands.lists c.wake.ensures refl
