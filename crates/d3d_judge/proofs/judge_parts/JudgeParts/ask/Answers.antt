use Rattle.std.proofs.Common.{refl}
use Rattle.d3d_judge.proofs.Calls.{found_ask}
use Rattle.d3d_judge.proofs.judge_parts.JudgeParts.ask.Goals as goal

pub returns : goal.returns
returns c = found_ask c.args.world.now c.args.kept.now.fed.history c.args.self.now _ c.args.thread c.args.fence c.requires refl c.ask.ensures refl
