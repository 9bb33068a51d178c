-- So many blocks were counted.
use Rattle.std.proofs.Common.{◌≡◌, length}
use Rattle.vk_port.specs.Blocks.{AreBlocks}
use Rattle.vk_port.proofs.tracked.blocks_of.Given as goal

abbrev pub invariant-loop-number : goal.invariant-loop-number
invariant-loop-number l = AreBlocks l.running l.blocks × (length l.blocks ≡ l.number)
