-- It is a lemma.
use Rattle.vk_sync_rules.proofs.Entries.{entered_covered}
use Rattle.vk_sync_rules.proofs.laws.entered_accesses_come_before.Goals as goal

pub returns : goal.returns
returns c = entered_covered
