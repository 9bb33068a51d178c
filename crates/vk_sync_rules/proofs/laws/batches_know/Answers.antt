-- They are lemmas.
use Rattle.vk_sync_rules.proofs.Knowledge.{seen_keeps, seen_splits}
use Rattle.vk_sync_rules.proofs.laws.batches_know.Goals as goal

pub returns-clause-keeps : goal.returns-clause-keeps
returns-clause-keeps c = seen_keeps

pub returns-clause-splits : goal.returns-clause-splits
returns-clause-splits c = seen_splits
