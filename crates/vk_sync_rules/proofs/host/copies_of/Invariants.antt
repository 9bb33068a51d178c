-- The copies so far.
use Rattle.std.proofs.Common.{◌≡◌, take}
use Rattle.vk_sync_rules.proofs.host.copies_of.Given as goal

abbrev pub invariant-loop-access : goal.invariant-loop-access
invariant-loop-access l = l.copies ≡ take l.access-index l.accesses
