-- The commands that were looked at are done.
use Rattle.std.proofs.Common.{◌≡◌, true}
use Rattle.vk_port.specs.Fronts.{is_done_to}
use Rattle.vk_port.proofs.tracked.Tracked.is_all_done.Given as goal

abbrev pub invariant-loop-i : goal.invariant-loop-i
invariant-loop-i l = is_done_to l.i l.self ≡ true
