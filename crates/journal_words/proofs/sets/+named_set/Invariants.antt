-- What is left.
use Rattle.std.proofs.Common.{length}
use Rattle.journal_words.proofs.sets.+named_set.Given as goal

abbrev pub decreases-named_set : goal.decreases-named_set
decreases-named_set l = length l.word.now
