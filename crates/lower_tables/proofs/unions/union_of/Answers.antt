-- The row at the loop's place is the first of those left.
use Rattle.std.proofs.Common.{◌==◌, ◌<◌, length, bit_and, arith, sym, ◌∙◌}
use Rattle.lower_tables.proofs.United.{united_more}
use Rattle.lower_tables.proofs.unions.union_of.Goals as goal

pub loop-row-preserved : goal.loop-row-preserved
loop-row-preserved g c =
    let within : c.loop-row.row-index < length c.args.rows.now = omega (arith, c.loop-row-test.true, c.told-rows) in
    rw c.with_row-bits.ensures
    (sym (united_more (λ row. bit_and c.args.set row.0 == row.0) (λ row. row.1) c.loop-row.bits c.args.rows.now c.loop-row.row-index (0, 0) within) ∙ c.loop-row.invariant)
