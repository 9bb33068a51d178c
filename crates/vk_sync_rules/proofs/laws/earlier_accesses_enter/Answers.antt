-- They are lemmas.
use Rattle.vk_sync_rules.proofs.Entries.{earlier_enter, entered_stay, host_enters}
use Rattle.vk_sync_rules.proofs.laws.earlier_accesses_enter.Goals as goal

pub returns-clause-earlier : goal.returns-clause-earlier
returns-clause-earlier c = earlier_enter

pub returns-clause-host : goal.returns-clause-host
returns-clause-host c = host_enters

pub returns-clause-stays : goal.returns-clause-stays
returns-clause-stays c = entered_stay
