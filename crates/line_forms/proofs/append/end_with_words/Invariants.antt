use Rattle.std.proofs.Common.{◌≡◌, ◌++◌, map, drop}
use Rattle.line_forms.specs.Lines.{hex_word, rest_of_line}
use Rattle.line_forms.proofs.append.end_with_words.Given as goal

abbrev pub invariant-loop-word : goal.invariant-loop-word
invariant-loop-word l =
    l.out.items ++ rest_of_line (map hex_word (drop l.word-index l.words))
    ≡ l.initial.out.items ++ rest_of_line (map hex_word l.words)
