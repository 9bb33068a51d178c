use Rattle.std.proofs.Common.{◌∙◌, ap, map}
use Rattle.d3d_judge.specs.Setting.{traits_of}
use Rattle.d3d_judge.specs.WordTouches.{untouched}
use Rattle.d3d_judge.proofs.Standing.{stands_first}
use Rattle.d3d_judge.proofs.judge_parts.JudgeParts.new.Goals as goal

pub returns : goal.returns
returns c =
    stands_first c.args.world.now _ c.len-queues.result c.len-threads.result c.len-queues.ensures c.len-threads.ensures c.in_ok-new.ensures c.in_ok-new-2.ensures (c.in_ok-new-3.ensures ∙ ap (λ rs. untouched c.len-queues.result c.len-threads.result (map traits_of rs)) c.as_slice.ensures)
