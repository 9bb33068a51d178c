-- They are lemmas.
use Rattle.vk_sync_rules.proofs.KnownBatches.{known_enter, waiters_enter}
use Rattle.vk_sync_rules.proofs.laws.known_accesses_enter.Goals as goal

pub returns-clause-known : goal.returns-clause-known
returns-clause-known c = known_enter

pub returns-clause-waiters : goal.returns-clause-waiters
returns-clause-waiters c = waiters_enter
