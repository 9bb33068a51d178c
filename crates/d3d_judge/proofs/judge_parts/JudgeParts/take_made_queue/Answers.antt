use Rattle.std.proofs.Common.{◌∙◌, sym}
use Rattle.d3d_judge.proofs.Prepared.{later_completion}
use Rattle.d3d_judge.proofs.judge_parts.JudgeParts.take_made_queue.Goals as goal

pub returns : goal.returns
returns c = later_completion c.args.world.now c.args.kept.now.fed.history c.args.self.now c.args.queue c.requires.takes (sym c.completes_execute.ensures ∙ c.if-completes_execute.false)
