-- The words so far are read.
use Rattle.std.proofs.Common.{◌≡◌, map, drop}
use Rattle.line_forms.specs.Reading.{each_of}
use Rattle.line_forms.proofs.EachWord.{behind_of}
use Rattle.journal_words.specs.Fields.{pair_of}
use Rattle.journal_words.proofs.each.pairs.Given as goal

abbrev pub invariant-loop-word : goal.invariant-loop-word
invariant-loop-word l =
    behind_of l.found (each_of pair_of (map (λ w. w.now) (drop l.word-index l.words))) ≡ each_of pair_of (map (λ w. w.now) l.words)
