use Rattle.std.proofs.Common.{length}
use Rattle.line_forms.proofs.sets.+set_from.Given as goal

abbrev pub decreases-set_from : goal.decreases-set_from
decreases-set_from l = length l.word.now
