-- A search for the last place finds a step, or tells how long the list is.
use Rattle.std.proofs.Common.{◌≡◌, ◌+◌, ◌<◌, length, arith}
use Rattle.std.proofs.lemmas.Option.{slice_get_within}
use Rattle.vk_port.specs.Fronts.{ready_steps}
use Rattle.vk_port.proofs.Finding.{found_at, found_left}
use Rattle.vk_port.proofs.find.count_steps.Goals as goal

pub returns-in-At : goal.returns-in-At
returns-in-At c =
    let steps = ready_steps c.args.timelines.now c.args.lanes.now in
    let within : 18446744073709551615 < length steps = slice_get_within steps 18446744073709551615 c.in-At.field-0 (found_at steps 18446744073709551615 c.in-At.field-0 c.in-At.ensures) in
    omega arith

pub returns-in-Left : goal.returns-in-Left
returns-in-Left c =
    let steps = ready_steps c.args.timelines.now c.args.lanes.now in
    let all : 18446744073709551615 ≡ length steps + c.in-Left.left = found_left steps 18446744073709551615 c.in-Left.left c.in-Left.ensures in
    omega arith
