-- The pieces so far.
use Rattle.std.proofs.Common.{◌≡◌, take}
use Rattle.std.specs.List.{flat_map}
use Rattle.vk_sync_rules.specs.Pieces.{made_by}
use Rattle.vk_sync_rules.proofs.made.made_by.Given as goal

abbrev pub invariant-loop-piece : goal.invariant-loop-piece
invariant-loop-piece l = l.made ≡ flat_map (made_by l.maker) (take l.piece-index l.pieces)
