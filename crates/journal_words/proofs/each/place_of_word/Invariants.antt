-- The words so far are others.
use Rattle.std.proofs.Common.{◌≡◌, ◌+◌, map, drop}
use Rattle.journal_words.specs.LineWords.{place_of_word}
use Rattle.journal_words.proofs.each.place_of_word.Given as goal

abbrev pub invariant-loop-at : goal.invariant-loop-at
invariant-loop-at l =
    place_of_word l.text (map (λ w. w.now) l.words) ≡ l.at + place_of_word l.text (map (λ w. w.now) (drop l.at l.words))
