-- The rows so far.
use Rattle.std.proofs.Common.{◌≡◌, take}
use Rattle.std.specs.List.{flat_map}
use Rattle.vk_sync_rules.specs.Copies.{sides_of}
use Rattle.vk_sync_rules.proofs.commands.pieces_of_rows.Given as goal

abbrev pub invariant-loop-row : goal.invariant-loop-row
invariant-loop-row l = l.pieces ≡ flat_map sides_of (take l.row-index l.rows)
