-- The last write so far.
use Rattle.std.proofs.Common.{◌≡◌, take}
use Rattle.std.specs.Option.{option_copied}
use Rattle.vk_sync_rules.specs.DoneAccesses.{last_write}
use Rattle.vk_sync_rules.proofs.last_writes.last_write.Given as goal

abbrev pub invariant-loop-access : goal.invariant-loop-access
invariant-loop-access l = option_copied l.found ≡ last_write l.resource l.word (take l.access-index l.accesses)
