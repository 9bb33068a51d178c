-- The rest is still to be printed.
use Rattle.std.proofs.Common.{◌≡◌, ◌++◌, ◌∷◌, codes, drop, map}
use Rattle.line_forms.specs.Lines.{rest_of_line}
use Rattle.journal_words.specs.PrintedWords.{pair_word}
use Rattle.journal_words.proofs.printed_words.end_with_both.Given as goal

abbrev pub invariant-loop-pair : goal.invariant-loop-pair
invariant-loop-pair l =
    l.out.items ++ rest_of_line (map pair_word (drop l.pair-index l.waits) ++ codes "sets" ∷ map pair_word l.fn.sets)
    ≡ l.initial.out.items ++ rest_of_line (map pair_word l.waits ++ codes "sets" ∷ map pair_word l.fn.sets)
