-- The rest is still to be printed.
use Rattle.std.proofs.Common.{◌≡◌, ◌++◌, decimal, drop, map}
use Rattle.line_forms.specs.Lines.{rest_of_line}
use Rattle.journal_words.proofs.printed_words.end_with_numbers.Given as goal

abbrev pub invariant-loop-number : goal.invariant-loop-number
invariant-loop-number l =
    l.out.items ++ rest_of_line (map decimal (drop l.number-index l.numbers)) ≡ l.initial.out.items ++ rest_of_line (map decimal l.numbers)
