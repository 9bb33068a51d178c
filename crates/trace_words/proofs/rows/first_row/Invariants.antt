use Rattle.std.proofs.Common.{◌≡◌, map, drop}
use Rattle.trace_words.specs.Rows.{row_of}
use Rattle.trace_words.proofs.rows.first_row.Given as goal

abbrev pub invariant-loop-row : goal.invariant-loop-row
invariant-loop-row g l =
    row_of (map (λ row. (row.0.now, row.1)) (drop l.row-index l.rows)) l.word
    ≡ row_of (map (λ row. (row.0.now, row.1)) l.rows) l.word
