-- The counts go on by one invocation.
use Rattle.routines.proofs.Counting.{first_are, counted_more}
use Rattle.routines.proofs.counts.counted.Goals as goal

pub loop-i-init : goal.loop-i-init
loop-i-init c = (c.new-puts.ensures, first_are c.args.m c.args.numbers.now c.in_ok-counts.counts c.in_ok-counts.ensures.length c.in_ok-counts.ensures.value)

pub loop-i-preserved : goal.loop-i-preserved
loop-i-preserved c =
    counted_more c.args.m c.args.numbers.now c.loop-i.i c.loop-i.counts c.grow-value.new.counts c.loop-i.puts c.push_kept.new.puts c.number.result c.grow-value.result
    c.requires c.loop-i.invariant c.number.ensures c.grow-value.ensures.value c.grow-value.ensures.counts c.in_ok-push_kept.ensures
