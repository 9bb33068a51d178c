use Rattle.std.proofs.Common.{◌+◌, ◌*◌, ◌^◌, ◌≤◌, arith, get_or}
use Rattle.std.specs.Char.{digit_value}
use Rattle.std.proofs.lemmas.Int.Digits.{digits_value_more}
use Rattle.trace_words.proofs.Digits.{decimal_over}
use Rattle.trace_words.proofs.number.decimal_value.Goals as goal

pub returns-in_err-checked_mul : goal.returns-in_err-checked_mul
returns-in_err-checked_mul c =
    let ens = c.in_err-checked_mul.ensures in
    let over : 2 ^ 64 ≤ c.loop-b.value * 10 + digit_value (get_or c.args.digits.now c.loop-b.b-index 0) = omega (arith, ens) in
    let small = decimal_over c.args.digits.now c.loop-b.b-index c.loop-b.value c.loop-b-test.true c.loop-b.invariant.0 over in
    rw (c.from_residual.ensures, small)

pub returns-in_err-value : goal.returns-in_err-value
returns-in_err-value c =
    let over : 2 ^ 64 ≤ c.loop-b.value * 10 + digit_value (get_or c.args.digits.now c.loop-b.b-index 0) = omega (arith, c.in_err-value.ensures) in
    let small = decimal_over c.args.digits.now c.loop-b.b-index c.loop-b.value c.loop-b-test.true c.loop-b.invariant.0 over in
    rw (c.from_residual-in_err-value.ensures, small)

pub loop-b-preserved : goal.loop-b-preserved
loop-b-preserved c =
    let more = digits_value_more 10 c.args.digits.now c.loop-b.b-index c.loop-b-test.true in
    let ens = c.in_ok-value.ensures in
    let ens2 = c.in_ok-checked_mul.ensures in
    (omega (arith, more, c.loop-b.invariant.0), omega (arith, c.loop-b.invariant.0))
