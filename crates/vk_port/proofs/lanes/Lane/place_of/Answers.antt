-- The number is before the first one, or so far behind it.
use Rattle.std.proofs.Common.{◌∙◌, arith}
use Rattle.vk_port.specs.Fronts.{lane_number}
use Rattle.vk_port.proofs.Placing.{place_before, place_from, first_number_is}
use Rattle.vk_port.proofs.lanes.Lane.place_of.Goals as goal

pub returns-then-number-first : goal.returns-then-number-first
returns-then-number-first c =
    let first = first_number_is c.args.self.now.batches c.in-Some.first.now c.in-Some.ensures in
    c.len.ensures ∙ place_before c.args.number (lane_number c.args.self.now.batches) c.args.self.now.batches c.requires (omega (arith, first))

pub returns-else-number-first : goal.returns-else-number-first
returns-else-number-first c =
    let first = first_number_is c.args.self.now.batches c.in-Some.first.now c.in-Some.ensures in
    let place = place_from c.args.number (lane_number c.args.self.now.batches) c.args.self.now.batches c.requires (omega (arith, first)) in
    omega (arith, first, place)
