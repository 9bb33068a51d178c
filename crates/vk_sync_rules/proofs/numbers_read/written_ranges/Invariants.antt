-- The pieces so far.
use Rattle.std.proofs.Common.{◌≡◌, take}
use Rattle.vk_sync_rules.specs.Pieces.{written_ranges}
use Rattle.vk_sync_rules.proofs.numbers_read.written_ranges.Given as goal

abbrev pub invariant-loop-piece : goal.invariant-loop-piece
invariant-loop-piece l = l.ranges ≡ written_ranges (take l.piece-index l.pieces)
