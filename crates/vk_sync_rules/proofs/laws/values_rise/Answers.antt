-- It is a lemma.
use Rattle.vk_sync_rules.proofs.Timelines.{timed_steps}
use Rattle.vk_sync_rules.proofs.laws.values_rise.Goals as goal

pub returns-clause-runs : goal.returns-clause-runs
returns-clause-runs c = timed_steps
