use Rattle.std.proofs.Common.{◌≡◌, map, drop}
use Rattle.trace_words.specs.Rows.{is_among}
use Rattle.trace_words.proofs.rows.is_among.Given as goal

abbrev pub invariant-loop-text : goal.invariant-loop-text
invariant-loop-text l =
    is_among (map (λ text. text.now) (drop l.text-index l.texts)) l.word ≡ is_among (map (λ text. text.now) l.texts) l.word
