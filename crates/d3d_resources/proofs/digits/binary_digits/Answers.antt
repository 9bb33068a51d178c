-- The place of the highest digit gives the number of digits.
use Rattle.std.proofs.Common.{◌+◌}
use Rattle.d3d_resources.proofs.BinaryDigits.{no_digits, digits_from_highest, counts_digits}
use Rattle.d3d_resources.proofs.digits.binary_digits.Goals as goal

pub returns-then-n-eq0-clause-value : goal.returns-then-n-eq0-clause-value
returns-then-n-eq0-clause-value c = counts_digits c.args.n 0 (no_digits c.args.n c.if-n-eq0.true)

pub returns-then-n-eq0-clause-least : goal.returns-then-n-eq0-clause-least
returns-then-n-eq0-clause-least c = no_digits c.args.n c.if-n-eq0.true

pub returns-else-n-eq0-clause-value : goal.returns-else-n-eq0-clause-value
returns-else-n-eq0-clause-value c =
    let place = c.ilog2.ensures in
    counts_digits c.args.n (c.ilog2.result + 1) (digits_from_highest c.args.n c.ilog2.result place.power_le place.next_power_gt)

pub returns-else-n-eq0-clause-least : goal.returns-else-n-eq0-clause-least
returns-else-n-eq0-clause-least c =
    let place = c.ilog2.ensures in
    digits_from_highest c.args.n c.ilog2.result place.power_le place.next_power_gt
