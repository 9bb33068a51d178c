-- What is left of the text is read on.
use Rattle.std.proofs.Common.{◌≡◌, ◌-◌, ◌+◌, ◌≤◌, length}
use Rattle.trace_words.specs.Lines.{pieces_of}
use Rattle.journal_text.specs.Texts.{pieces_from, reading_of}
use Rattle.journal_text.proofs.texts.read_text.Given as goal

abbrev pub invariant-loop-line : goal.invariant-loop-line
invariant-loop-line l =
    (pieces_from l.number (length l.text - length l.rest) l.reading (pieces_of l.rest) ≡ reading_of l.text)
    × (length l.rest ≤ length l.text)
    × (l.number + length l.rest ≤ length l.text + 1)

abbrev pub decreases-loop-line : goal.decreases-loop-line
decreases-loop-line l = length l.rest
