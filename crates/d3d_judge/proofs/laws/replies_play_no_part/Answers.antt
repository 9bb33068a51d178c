use Rattle.d3d_judge.proofs.Replies.{replies_play_no_part}
use Rattle.d3d_judge.proofs.laws.replies_play_no_part.Goals as goal

pub returns : goal.returns
returns c = replies_play_no_part
