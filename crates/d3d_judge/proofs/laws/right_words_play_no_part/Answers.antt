use Rattle.d3d_judge.proofs.Replies.{right_words_play_no_part}
use Rattle.d3d_judge.proofs.laws.right_words_play_no_part.Goals as goal

pub returns : goal.returns
returns c = right_words_play_no_part
