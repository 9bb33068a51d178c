use Rattle.std.proofs.Common.{subst, sym, arith, ◌*◌, ◌+◌}
use Rattle.word_trees.specs.Tables.{IsTable}
use Rattle.word_trees.proofs.Zeros.{zero_table, zero_items, zero_room, zero_waste}
use Rattle.word_trees.proofs.table.Table.new.Goals as goal

pub invariant_of-result : goal.invariant_of-result
invariant_of-result c =
    let h = c.loop-width.invariant in let h2 = h.2 in
    subst (λ ns. IsTable c.loop-width.depth c.loop-width.width ns) (sym (c.in_ok-nodes.ensures.items_if_clones_equal (λ y h. h))) (zero_table c.loop-width.depth c.loop-width.width h.0 (omega (arith, h2)))

pub returns-clause-zeros : goal.returns-clause-zeros
returns-clause-zeros c = zero_items c.loop-width.depth c.loop-width.width _ (c.in_ok-nodes.ensures.items_if_clones_equal (λ y h. h)) c.loop-width.invariant.0

pub returns-clause-room : goal.returns-clause-room
returns-clause-room c = zero_room c.loop-width.depth c.loop-width.width c.args.count _ (c.in_ok-nodes.ensures.items_if_clones_equal (λ y h. h)) c.loop-width.invariant.0 c.loop-width-test.false

pub returns-clause-no_waste : goal.returns-clause-no_waste
returns-clause-no_waste c = zero_waste c.loop-width.depth c.loop-width.width (2 * c.args.count + 1) _ (c.in_ok-nodes.ensures.items_if_clones_equal (λ y h. h)) c.loop-width.invariant.0 c.loop-width.invariant.3
