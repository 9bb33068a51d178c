-- What the rows left add to the bits so far is the whole union.
use Rattle.std.proofs.Common.{◌≡◌, ◌==◌, drop, bit_and}
use Rattle.lower_tables.specs.Unions.{united}
use Rattle.lower_tables.proofs.unions.union_of.Given as goal

abbrev pub invariant-loop-row : goal.invariant-loop-row
invariant-loop-row g l =
    united (λ row. bit_and l.set row.0 == row.0) (λ row. row.1) l.bits (drop l.row-index l.rows)
    ≡ united (λ row. bit_and l.set row.0 == row.0) (λ row. row.1) 0 l.rows
