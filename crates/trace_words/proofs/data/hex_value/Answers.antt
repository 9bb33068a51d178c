use Rattle.std.proofs.Common.{◌+◌, arith}
use Rattle.std.proofs.lemmas.Int.Digits.{digits_value_more}
use Rattle.trace_words.proofs.Digits.{hex_fits}
use Rattle.trace_words.proofs.data.hex_value.Goals as goal

pub overflow_mul-value : goal.overflow_mul-value
overflow_mul-value c =
    let fits = hex_fits c.args.digits.now (c.loop-b.b-index + 1) c.requires.digits c.requires.short in
    let more = digits_value_more 16 c.args.digits.now c.loop-b.b-index c.loop-b-test.true in
    omega (arith, fits, more, c.loop-b.invariant)

pub overflow_add-value : goal.overflow_add-value
overflow_add-value c =
    let fits = hex_fits c.args.digits.now (c.loop-b.b-index + 1) c.requires.digits c.requires.short in
    let more = digits_value_more 16 c.args.digits.now c.loop-b.b-index c.loop-b-test.true in
    omega (arith, fits, more, c.loop-b.invariant)

pub loop-b-preserved : goal.loop-b-preserved
loop-b-preserved c =
    let more = digits_value_more 16 c.args.digits.now c.loop-b.b-index c.loop-b-test.true in
    omega (arith, more, c.loop-b.invariant)
