-- The numbers so far.
use Rattle.std.proofs.Common.{◌≡◌, take}
use Rattle.vk_sync_rules.specs.Machines.{is_seen_in}
use Rattle.vk_sync_rules.specs.NextState.{where_seen}
use Rattle.vk_sync_rules.proofs.numbers_read.seen_numbers.Given as goal

abbrev pub invariant-loop-k : goal.invariant-loop-k
invariant-loop-k l = l.numbers ≡ where_seen (is_seen_in l.accesses l.site.queue l.site.stages l.reads l.site.place l.range.resource) l.range.first (take l.k l.words)
