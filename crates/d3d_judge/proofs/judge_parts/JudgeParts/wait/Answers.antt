use Rattle.std.proofs.Common.{refl}
use Rattle.d3d_judge.proofs.Calls.{found_wait}
use Rattle.d3d_judge.proofs.judge_parts.JudgeParts.wait.Goals as goal

pub returns : goal.returns
returns c = found_wait c.args.world.now c.args.kept.now.fed.history c.args.self.now _ c.args.thread c.args.fence c.args.value c.requires refl c.wait.ensures refl
