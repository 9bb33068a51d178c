use Rattle.trace_words.proofs.Cutting.{cut_none, cut_some}
use Rattle.trace_words.proofs.line.cut.Goals as goal

pub returns-in_default : goal.returns-in_default
returns-in_default c = cut_none c.args.byte c.args.text.now c.in_default.ensures

pub returns : goal.returns
returns c =
    cut_some c.args.byte c.args.text.now c.in-Some.at _ _ c.in-Some.ensures c.split_at.ensures.front c.split_at.ensures.back
