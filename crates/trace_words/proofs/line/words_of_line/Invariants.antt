use Rattle.std.proofs.Common.{◌≡◌, ◌++◌, map, length}
use Rattle.trace_words.specs.Lines.{words_of}
use Rattle.trace_words.proofs.line.words_of_line.Given as goal

abbrev pub invariant-loop-word : goal.invariant-loop-word
invariant-loop-word l = map (λ word. word.now) l.words.items ++ words_of l.rest ≡ words_of l.fn.line

abbrev pub decreases-loop-word : goal.decreases-loop-word
decreases-loop-word l = length l.rest
