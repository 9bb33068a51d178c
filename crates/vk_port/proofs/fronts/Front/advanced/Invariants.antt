-- The place that was come to is one in front of which all commands are done.
use Rattle.std.proofs.Common.{◌≡◌, true}
use Rattle.vk_port.specs.Fronts.{is_front}
use Rattle.vk_port.proofs.fronts.Front.advanced.Given as goal

abbrev pub invariant-loop-batch : goal.invariant-loop-batch
invariant-loop-batch l = is_front (record { batch = l.batch; command = l.from }) l.lane ≡ true
