-- The rows so far have another key.
use Rattle.std.proofs.Common.{◌≡◌, drop}
use Rattle.lower_tables.specs.Rows.{first_value}
use Rattle.lower_tables.proofs.rows.first_row.Given as goal

abbrev pub invariant-loop-row : goal.invariant-loop-row
invariant-loop-row g l = first_value l.key (drop l.row-index l.rows) ≡ first_value l.key l.rows
